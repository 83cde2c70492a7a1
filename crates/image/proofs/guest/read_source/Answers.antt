-- `guest::read_source` meets its contract: each part is the field that is read for it, and the rest is blank.
use native.Mathlib.Omega.{arith}
use Rattle.bits.proofs.FieldLaws.{field_fits}
use Rattle.image.proofs.guest.read_source.Goals as goal

pub overflow_cast-result : goal.overflow_cast-result
overflow_cast-result c = record { fits = omega (arith, field_fits _ _ 7 _ c.number_at-2.ensures) }
