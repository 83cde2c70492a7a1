-- `piece_at` meets its contract. The invariant: the part is found in all the extents where it is found in those that are left.
use Rattle.memory.proofs.Holds.{From}
use Rattle.memory.proofs.extents.piece_at.Given as goal

abbrev pub invariant-loop-x : goal.invariant-loop-x
invariant-loop-x l = From l.x-items l.real.0 l.len l.x-index
