-- `partition::share` meets its contract, which it repeats word for word.
use Rattle.rules.specs.Image.{share}
use Rattle.partition.proofs.share.Goals as goal

pub returns : goal.returns
unfolding share
returns c = cc
