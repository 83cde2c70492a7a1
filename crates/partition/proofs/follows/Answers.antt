-- `partition::follows` meets its contract, which it repeats word for word.
use Rattle.std.proofs.Common.{arith}
use Rattle.std.proofs.lemmas.Bool.Decides.{nat_tests}
use Rattle.rules.specs.Image.{follows}
use Rattle.partition.proofs.follows.Goals as goal

pub returns-then-i-eq0 : goal.returns-then-i-eq0
unfolding follows
returns-then-i-eq0 c = grind (arith, nat_tests)

pub returns : goal.returns
unfolding follows
returns c = grind (arith, nat_tests)
