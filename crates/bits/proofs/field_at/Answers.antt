-- `bits::field_at` meets its contract: each of its three answers is the definition's.
use native.Mathlib.Omega.{arith}
use Rattle.bits.proofs.FieldLaws.{field_wide, field_missing, field_value}
use Rattle.bits.proofs.field_at.Goals as goal

pub returns-then-n-gt28 : goal.returns-then-n-gt28
returns-then-n-gt28 c = search field_wide

pub returns-then-s-first : goal.returns-then-s-first
returns-then-s-first c = field_missing _ _ _ (omega arith) (omega arith)

pub returns : goal.returns
returns c = field_value _ _ _ _ (omega arith) (omega arith) c.number_at.ensures
