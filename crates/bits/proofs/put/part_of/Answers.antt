-- `bits::put::part_of` meets its contract: a mask of k ones takes the remainder by 2 ^ k.
use native.Mathlib.Omega.{arith}
use Rattle.bits.proofs.PutLaws.{masked}
use Rattle.bits.proofs.put.part_of.Goals as goal

pub returns : goal.returns
returns c = masked _ _ (omega arith)
