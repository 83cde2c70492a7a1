-- `hits::count` meets its contract: the word behind is an address.
use Rattle.std.proofs.Common.{arith}
use Rattle.plants.proofs.Reach.{range_ends}
use Rattle.hits.proofs.count.Goals as goal

pub overflow_add-behind : goal.overflow_add-behind
overflow_add-behind c = omega (arith, range_ends c.args.extents _ c.args.at 16 c.well_formed.0 c.requires.at_value (omega arith))
