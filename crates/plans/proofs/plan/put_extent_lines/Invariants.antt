-- `plan::put_extent_lines` meets its contract. The invariant: the lines of the first extents stand there.
use Rattle.rules.specs.Scan.{each_below}
use Rattle.rules.specs.Kept.{extent_at}
use Rattle.rules.specs.Plan.{extent_line}
use Rattle.text.specs.Put.{Put}
use Rattle.plans.proofs.plan.put_extent_lines.Given as goal

abbrev pub invariant-loop-x : goal.invariant-loop-x
invariant-loop-x l = Put l.initial.out l.out l.from l.at (each_below l.x-index (λ k. extent_line (extent_at l.fn.extents k)))
