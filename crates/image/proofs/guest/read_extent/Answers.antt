-- `guest::read_extent` meets its contract: each part is the field that is read for it.
use native.Mathlib.Omega.{arith}
use Rattle.bits.proofs.FieldLaws.{field_fits}
use Rattle.image.proofs.guest.read_extent.Goals as goal

pub overflow_cast-result : goal.overflow_cast-result
overflow_cast-result c = omega (arith, field_fits _ _ 16 _ c.number_at-2.ensures)

pub overflow_cast-result-2 : goal.overflow_cast-result-2
overflow_cast-result-2 c = omega (arith, field_fits _ _ 16 _ c.number_at-3.ensures)
