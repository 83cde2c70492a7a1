-- `zero_at` meets its contract. The invariant: i zeros are put where their addresses lie.
use native.Mathlib.Omega.{arith}
use mathlib.Core.Path.{◌≡◌, ◌∙◌}
use lib.ListN.{length-replicate}
use Rattle.memory.proofs.Walks.{walk_most, walk_put, zeros_parts, put_all}
use Rattle.memory.proofs.guest.zero_at.Goals as goal

pub loop-i-preserved : goal.loop-i-preserved
loop-i-preserved c =
    let k = c.piece_at-at.result.len in (
      walk_most _ _ _ _ _ c.piece_at-at.ensures.0 (omega arith),
      c.zero.auto.mem ∙ c.loop-i.invariant.1,
      omega (arith, c.piece_at-at.ensures.1),
      rw (← zeros_parts c.loop-i.i k)
          (walk_put _ _ _ _ _ c.piece_at-at.ensures.0 c.args.mem.now c.loop-i.mem _ _ _ c.requires.ready.apart c.loop-i.invariant.3 (length-replicate _ _) (length-replicate _ _) c.zero.ensures),
    )

pub returns : goal.returns
returns c =
    let e : c.loop-i.i ≡ c.args.n = omega arith in
    put_all _ _ _ _ _ (c.loop-i.invariant.3 ∙ rw e)
