-- `partition::extent_right` meets its contract, which it repeats word for word; its sums stay below 2^33.
use Rattle.std.proofs.Common.{arith}
use Rattle.std.proofs.lemmas.Bool.Decides.{nat_tests}
use Rattle.rules.specs.Image.{extent_right}
use Rattle.partition.proofs.extent_right.Goals as goal

pub returns-then-from-count-le-REAL_PAGES : goal.returns-then-from-count-le-REAL_PAGES
unfolding extent_right
returns-then-from-count-le-REAL_PAGES c = grind (arith, nat_tests)

pub returns-else-from-count-le-REAL_PAGES : goal.returns-else-from-count-le-REAL_PAGES
unfolding extent_right
returns-else-from-count-le-REAL_PAGES c = grind (arith, nat_tests)
