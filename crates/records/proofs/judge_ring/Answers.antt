-- `records::judge_ring` meets its contract: a ring has 2 entries at least and 256 at most.
use mathlib.Core.Path.{sym}
use native.Mathlib.Omega.{arith}
use Rattle.records.proofs.Powers.{at_least, at_most}
use Rattle.records.proofs.judge_ring.Goals as goal

pub overflow_mul-size : goal.overflow_mul-size
overflow_mul-size c = omega (arith, at_most _ 2 256 (sym c.if-not-power_of_two.ensures))

pub nonzero_rem-base : goal.nonzero_rem-base
nonzero_rem-base c = omega (arith, at_least _ 2 256 (sym c.if-not-power_of_two.ensures))
