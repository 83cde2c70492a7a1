-- `plan::put_source_lines` meets its contract. The invariant: the lines of the first sources stand there.
use Rattle.rules.specs.Scan.{each_below}
use Rattle.rules.specs.Kept.{source_at}
use Rattle.rules.specs.Plan.{source_line}
use Rattle.text.specs.Put.{Put}
use Rattle.plans.proofs.plan.put_source_lines.Given as goal

abbrev pub invariant-loop-s : goal.invariant-loop-s
invariant-loop-s l = Put l.initial.out l.out l.from l.at (each_below l.s-index (λ k. source_line (source_at l.fn.plant k)))
