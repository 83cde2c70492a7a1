-- `mondo::read_list` meets its contract: the invariant is that the first i listed cpus are read.
use mathlib.Core.Path.{◌≡◌}
use lib.ListN.{length, take}
use Rattle.rules.specs.Real.{byte_at}
use Rattle.rules.specs.Mondo.{listed_cpus}
use Rattle.memory.specs.Ready.{present}
use Rattle.mondo.proofs.read_list.Given as goal

abbrev pub invariant-loop-i : goal.invariant-loop-i
invariant-loop-i l = (length l.cpus ≡ 64) × (take l.i l.cpus ≡ listed_cpus (byte_at (present l.extents) l.mem) l.list l.i)
