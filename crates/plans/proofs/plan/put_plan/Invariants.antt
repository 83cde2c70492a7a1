-- `plan::put_plan` meets its contract. The invariant: the lines of the first guests stand there.
use Rattle.rules.specs.Scan.{each_below}
use Rattle.rules.specs.Kept.{guest_at}
use Rattle.rules.specs.Plan.{guest_lines}
use Rattle.text.specs.Put.{Put}
use Rattle.plans.proofs.plan.put_plan.Given as goal

abbrev pub invariant-loop-guest : goal.invariant-loop-guest
invariant-loop-guest l = Put l.initial.out l.out 0 l.at (each_below l.guest-index (λ g. guest_lines (guest_at l.fn.tables g)))
