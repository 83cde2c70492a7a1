-- `picture::put_pairs` meets its contract. The invariant: the pairs of the first bytes stand there.
use Rattle.plans.proofs.EachLaws.{each_start, each_next, each_end, each_place}
use Rattle.plans.proofs.PairLaws.{all_pairs}
use native.Mathlib.Omega.{arith}
use Rattle.plans.proofs.picture.put_pairs.Goals as goal

pub loop-b-init : goal.loop-b-init
loop-b-init c = each_start _ _ _

pub put_pair-at-requires : goal.put_pair-at-requires
put_pair-at-requires c =
    (omega arith, omega arith, omega (arith, each_place _ _ _ _ _ _ c.loop-b.invariant 2 (λ k h. omega arith)))

pub loop-b-preserved : goal.loop-b-preserved
loop-b-preserved c = each_next _ _ _ _ _ _ c.loop-b.invariant _ _ c.put_pair-at.ensures

pub returns : goal.returns
returns c = rw (← all_pairs _) (each_end _ _ _ _ _ _ c.loop-b.invariant _ (omega arith) (omega arith))
