-- `bits::number_at` meets its contract: before each turn v is the field of the k bits that were read.
use native.Mathlib.Omega.{arith}
use mathlib.Core.Path.{◌∙◌}
use Rattle.rules.specs.Bits.{field_at}
use Rattle.bits.proofs.FieldLaws.{bit_there, field_room, field_next}
use borrow.Author.Rules.{rules}
use Rattle.bits.proofs.number_at.Goals as goal

pub loop-k-init : goal.loop-k-init
unfolding field_at
loop-k-init c = search rules

pub pushed-v-requires : goal.pushed-v-requires
pushed-v-requires c = (field_room _ _ _ _ (omega arith) c.loop-k.invariant, omega arith)

pub loop-k-preserved : goal.loop-k-preserved
loop-k-preserved c = field_next _ _ _ _ _ _ c.loop-k.invariant (c.bit_of.ensures ∙ bit_there _ _ _ _ (omega arith) (omega arith)) c.pushed-v.ensures
