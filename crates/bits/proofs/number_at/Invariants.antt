-- `bits::number_at` meets its contract: before each turn v is the field of the k bits that were read.
use mathlib.Core.Path.{◌≡◌}
use Rattle.rules.specs.Bits.{field_at}
use Rattle.bits.proofs.number_at.Given as goal

abbrev pub invariant-loop-k : goal.invariant-loop-k
invariant-loop-k l = l.v ≡ field_at l.s l.at l.k
