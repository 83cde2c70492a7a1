-- `read_fields` meets its contract: before each turn, what is left to read comes to what the whole does.
use Prim.Native.Nat.{◌+◌, ◌*◌, ◌≤◌}
use Rattle.rules.specs.Limits.{guest_limit}
use Rattle.rules.specs.Widths.{header_bits}
use Rattle.image.proofs.GuestLaws.{guest_bits}
use Rattle.image.proofs.FieldsLaws.{Left}
use Rattle.image.proofs.read_fields.Given as goal

abbrev pub invariant-loop-i : goal.invariant-loop-i
invariant-loop-i l = (l.guests ≤ guest_limit) × (l.at ≤ header_bits + guest_bits * l.i) × Left l.s l.guests l.i l.at l.guest
