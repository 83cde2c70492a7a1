-- `fields::why_fields` meets its contract. The invariant: the fields behind `at`, after count others, have the fault of all fields.
use mathlib.Core.Path.{◌≡◌}
use Prim.Native.Nat.{◌-◌, ◌≤◌}
use lib.ListN.{length, drop}
use Rattle.text.specs.Pieces.{behind}
use Rattle.reasons.specs.Faults.{why_fields}
use Rattle.reasons.proofs.fields.why_fields.Given as goal

abbrev pub invariant-loop-at : goal.invariant-loop-at
invariant-loop-at l = (l.count ≤ l.at) × (l.at ≤ length l.s) × (why_fields l.word l.count (behind (drop l.at l.s)) ≡ why_fields l.word 0 (behind (drop l.end l.s)))

abbrev pub decreases-loop-at : goal.decreases-loop-at
decreases-loop-at l = length l.s - l.at
