-- `fields::read_fields` meets its contract. The invariant: the fields up to `at` are read, and with those behind it are the line's.
use Prim.Native.Nat.{◌-◌, ◌≤◌}
use lib.ListN.{length}
use Rattle.text.proofs.GatherLaws.{Gathering}
use Rattle.text.proofs.fields.read_fields.Given as goal

abbrev pub invariant-loop-at : goal.invariant-loop-at
invariant-loop-at l = (l.count ≤ 9) × (l.at ≤ length l.s) × Gathering l.s l.end l.list l.count l.at

abbrev pub decreases-loop-at : goal.decreases-loop-at
decreases-loop-at l = length l.s - l.at
