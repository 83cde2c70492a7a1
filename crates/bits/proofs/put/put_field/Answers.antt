-- `bits::put::put_field` meets its contract: before each turn, what is left to do from here is the whole.
use mathlib.Core.Path.{sym, ◌∙◌}
use lib.ListN.{length-set}
use Rattle.bits.proofs.PutLaws.{put_step, put_none}
use native.Mathlib.Omega.{arith}
use Rattle.bits.proofs.put.put_field.Goals as goal

pub loop-left-preserved : goal.loop-left-preserved
loop-left-preserved c =
    let l = c.loop-left in (
      omega arith,
      omega arith,
      omega arith,
      simp length-set l.invariant.3,
      l.invariant.4 ∙ put_step _ _ _ _ _ _ _ _ (omega arith) (omega arith) (omega arith) (omega arith) c.part_of-part.ensures c.byte_with.ensures,
    )

pub returns : goal.returns
returns c = sym (c.loop-left.invariant.4 ∙ put_none _ _ _ _ (omega arith))
