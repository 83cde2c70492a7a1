-- `reached` meets its contract. The invariant: all the extents lead from base as far as those that are left lead from `at`.
use Rattle.memory.proofs.Holds.{Onward}
use Rattle.memory.proofs.extents.reached.Given as goal

abbrev pub invariant-loop-x : goal.invariant-loop-x
invariant-loop-x l = Onward l.x-items l.base l.x-index l.at
