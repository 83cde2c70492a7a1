-- `bits::put::byte_with` meets its contract: what stays is a multiple of the power above which it stands, and the part is below that power.
use native.Mathlib.Omega.{arith}
use Rattle.bits.proofs.PutLaws.{joined, joined_byte, part_byte}
use Rattle.bits.proofs.put.byte_with.Goals as goal

pub overflow_cast-result : goal.overflow_cast-result
overflow_cast-result c = record { fits = joined_byte _ _ _ (omega arith) (part_byte c.args.byte _ _ _ (omega arith) c.requires.2) }

pub returns : goal.returns
returns c = rw c.from.ensures (joined _ _ _ _ (omega arith) c.requires.2 (omega arith))
