-- `mmu::tsb::read_tsbs` meets its contract: the invariant is that the first i descriptors are granted, in the list.
use native.Mathlib.Omega.{arith}
use mathlib.Core.Path.{sym, ap, ◌∙◌}
use Prim.Native.Nat.{◌*◌}
use lib.ListN.{length, length-set}
use Rattle.rules.specs.declared.Tsbs.{Tsbs}
use Rattle.rules.specs.Rulings.{granted}
use Rattle.memory.proofs.Places.{valid_part}
use Rattle.plants.proofs.Reach.{range_ends}
use Rattle.std.proofs.lemmas.Result.{err_from_is_err_and}
use Rattle.mmu.proofs.TsbLaws.{listed_none, listed_more, listed_stops, listed_all}
use Rattle.mmu.proofs.tsb.read_tsbs.Goals as goal

pub loop-i-init : goal.loop-i-init
loop-i-init c =
    let e = ap (λ (t : Tsbs). t.tsb) c.tsbs-list.ensures in
    (ap length e, listed_none _ _ ∙ ap granted (sym e))

pub overflow_add-pointer : goal.overflow_add-pointer
overflow_add-pointer c =
    omega (arith, range_ends c.args.extents _ c.args.pointer (32 * c.args.count) c.well_formed.0 c.requires.count_value (omega arith))

pub descriptor_at-t-requires-clause-real_value : goal.descriptor_at-t-requires-clause-real_value
descriptor_at-t-requires-clause-real_value c = valid_part _ _ _ _ _ c.requires.count_value (omega arith)

pub returns-in_err-judge_tsb : goal.returns-in_err-judge_tsb
returns-in_err-judge_tsb c =
    let p = err_from_is_err_and c.from_residual.result c.from_residual.ensures.1 in
    let t = rw c.from.ensures at c.descriptor_at-t.ensures in
    rw (p.1, p.2) (listed_stops _ _ _ _ c.loop-i.invariant.1 _ t _ c.judge_tsb.ensures _ _ c.in_err-judge_tsb.was (omega arith))

pub loop-i-preserved : goal.loop-i-preserved
loop-i-preserved c =
    let t = rw c.from.ensures at c.descriptor_at-t.ensures in
    (simp length-set c.loop-i.invariant.0, listed_more _ _ _ _ c.loop-i.invariant.1 _ t _ c.judge_tsb.ensures c.in_ok-judge_tsb.was)

pub returns : goal.returns
returns c = listed_all _ _ _ _ _ c.loop-i.invariant.1 (omega arith)
