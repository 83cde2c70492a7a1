-- `partition::named_before` meets its contract: the first clash among the names of the sources.
use Rattle.std.proofs.Common.{rules, get_or, ◌∙◌, None}
use Rattle.partition.specs.Collected.{name_limit, name_at, alike, names_of}
use Rattle.partition.proofs.Pairs.{clash_filled}
use Rattle.partition.proofs.NameLaws.{named_is}
use Rattle.partition.proofs.named_before.Goals as goal

pub returns : goal.returns
unfolding names_of
returns c = c.first_clash.ensures (λ i j. alike (get_or c.names-names.result i None) (get_or c.names-names.result j None)) (λ i j b u v k. search rules) ∙ clash_filled None alike (name_at c.args.t) name_limit c.names-names.result c.names-names.ensures ∙ named_is c.args.t
