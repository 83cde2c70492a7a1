-- `sources::place_of` meets its contract: the position among the sources that are there is the rule's first number.
use Rattle.std.proofs.Common.{◌∙◌, arith}
use Rattle.rules.specs.Kept.{blank_source}
use Rattle.sources.proofs.Positions.{position_first}
use Rattle.sources.proofs.place_of.Goals as goal

pub returns : goal.returns
returns c = (rw c.from.ensures at c.position_of.ensures) ∙ position_first _ blank_source c.args.count c.args.list.now (omega arith)
