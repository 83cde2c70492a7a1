-- `mondo::rings_of` meets its contract: after i turns of the loop the first i queues are read.
use native.Mathlib.Omega.{arith}
use Rattle.mondo.specs.Steps.{ring_in, rings_of}
use Rattle.mondo.proofs.RingTails.{filled_all}
use Rattle.mondo.proofs.rings_of.Goals as goal

pub returns : goal.returns
unfolding rings_of
returns c = let l = c.loop-i in filled_all ring_in _ l.rings l.i l.invariant.1 (omega arith) (omega arith)
