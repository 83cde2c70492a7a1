-- `partition::first_breaking` meets its contract: the rule's scan over the places of extents.
use Rattle.std.proofs.Common.{rules}
use Rattle.std.proofs.lemmas.Iterator.{first_from_Range}
use Rattle.rules.specs.Image.{breaks, first_breaking}
use Rattle.partition.specs.Collected.{run_limit}
use Rattle.partition.proofs.Searches.{find_range}
use Rattle.partition.proofs.first_breaking.Goals as goal

pub returns : goal.returns
unfolding first_breaking breaks
returns g c rule h = find_range _ run_limit _ (first_from_Range _ _ _ _ _ _ c.find.ensures.ran (λ x q k. search rules) (λ x q k. search rules))
