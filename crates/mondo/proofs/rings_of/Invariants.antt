-- `mondo::rings_of` meets its contract: after i turns of the loop the first i queues are read.
use mathlib.Core.Path.{◌≡◌}
use lib.ListN.{length}
use Rattle.mondo.specs.Steps.{ring_in}
use Rattle.mondo.proofs.RingTails.{Filled}
use Rattle.mondo.proofs.rings_of.Given as goal

abbrev pub invariant-loop-i : goal.invariant-loop-i
invariant-loop-i l = (length l.rings ≡ 8) × Filled ring_in l.plant.cpu l.rings l.i
