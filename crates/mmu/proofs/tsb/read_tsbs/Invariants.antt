-- `mmu::tsb::read_tsbs` meets its contract: the invariant is that the first i descriptors are granted, in the list.
use Rattle.std.proofs.Common.{◌≡◌, length}
use Rattle.rules.specs.Real.{sight_of}
use Rattle.rules.specs.Rulings.{granted}
use Rattle.rules.specs.Tsb.{descriptors}
use Rattle.memory.specs.Ready.{present}
use Rattle.mmu.proofs.tsb.read_tsbs.Given as goal

abbrev pub invariant-loop-i : goal.invariant-loop-i
invariant-loop-i l = (length l.list.tsb ≡ 4) × (descriptors (sight_of (present l.extents) l.mem) l.pointer l.i ≡ granted l.list.tsb)
