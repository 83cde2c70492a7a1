-- `guest::read_list` meets its contract: before each turn the first i places are read.
use native.Mathlib.Omega.{arith}
use Rattle.rules.specs.Image.{filled}
use Rattle.partition.proofs.Filled.{fill_next}
use Rattle.image.proofs.guest.read_list.Goals as goal

pub loop-i-init : goal.loop-i-init
unfolding filled
loop-i-init g c size blank f e h = e

pub loop-i-preserved : goal.loop-i-preserved
loop-i-preserved g c size blank f e h = fill_next size blank f _ _ _ (c.loop-i.invariant size blank f e h) (h _ _ (omega arith) c.read.ensures)
