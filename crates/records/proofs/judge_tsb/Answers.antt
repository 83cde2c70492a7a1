-- `records::judge_tsb` meets its contract: a TSB has 512 entries at least.
use mathlib.Core.Path.{sym}
use native.Mathlib.Omega.{arith}
use Rattle.records.proofs.Powers.{at_least}
use Rattle.records.proofs.judge_tsb.Goals as goal

pub nonzero_rem-t : goal.nonzero_rem-t
nonzero_rem-t c = omega (arith, at_least _ 512 1_048_576 (sym c.if-not-power_of_two.ensures))
