-- `desk_after` meets its contract. The invariant: the lines from `from` on, done from this desk, come to what all lines come to.
use mathlib.Core.Path.{◌≡◌}
use mathlib.Core.List.{[]}
use Prim.Native.Nat.{◌+◌, ◌-◌, ◌≤◌}
use lib.ListN.{length, drop}
use Rattle.rules.specs.Session.{lines_from}
use Rattle.rules.specs.Plan.{steps, desk_after}
use Rattle.desk.proofs.desk_after.Given as goal

abbrev pub invariant-loop-from : goal.invariant-loop-from
invariant-loop-from l = (l.from ≤ length l.input) × (steps (l.n + 1) l.desk (lines_from [] (drop l.from l.input)) ≡ desk_after l.input) × (l.n ≤ l.from)

abbrev pub decreases-loop-from : goal.decreases-loop-from
decreases-loop-from l = length l.input - l.from
