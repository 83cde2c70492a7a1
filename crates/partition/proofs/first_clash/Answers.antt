-- `partition::first_clash` meets its contract: none of the pairs passed clashes.
use mathlib.Core.Path.{refl, ◌∙◌}
use native.Mathlib.Omega.{arith}
use Rattle.rules.proofs.Scan.{some_start, some_next, first_start}
use Rattle.partition.proofs.Pairs.{clash_next, clash_none, clash_found}
use Rattle.partition.proofs.first_clash.Goals as goal
use Rattle.partition.proofs.first_clash.Goals.{else-pairs-test, then-pairs-test+then-loop-i-test+then-clash}

pub pairs-init : goal.pairs-init
pairs-init g c = (refl, λ p h. first_start _)

pub loop-i-init : goal.loop-i-init
loop-i-init g c = (c.pairs.invariant.0, λ p h. (c.pairs.invariant.1 p h, some_start _))

pub loop-i-preserved : goal.loop-i-preserved
loop-i-preserved g c =
    let l = c.loop-i in
    (l.invariant.0, λ p h. ((l.invariant.1 p h).0, some_next _ _ _ (l.invariant.1 p h).1 (h _ _ _ (omega arith) (omega arith) c.clash.ensures) c.if-clash.false))

pub pairs-preserved : goal.pairs-preserved
pairs-preserved g c =
    let l = c.loop-i in
    (l.invariant.0, λ p h. clash_next p _ _ (l.invariant.1 p h).0 (l.invariant.1 p h).1 (omega arith) (omega arith))

pub returns : goal.returns
returns g c p h =
    elim c.pairs-test.branch [
      | else-pairs-test w ↦ w.found-is ∙ c.pairs.invariant.0 ∙ clash_none p _ _ (c.pairs.invariant.1 p h) (omega arith) (omega arith)
      | then-pairs-test+then-loop-i-test+then-clash w ↦
          w.found-is ∙ clash_found p _ _ _ _ (w.loop-i.invariant.1 p h).0 (omega arith) (omega arith) (h _ _ _ (omega arith) (omega arith) w.clash.ensures) w.if-clash.true
    ]
