-- `partition::ascend` meets its contract: each extent follows the one before it.
use Rattle.std.proofs.Common.{arith, rules, refl}
use Rattle.std.proofs.lemmas.Iterator.{YieldsList-from_range}
use Rattle.std.proofs.lemmas.Iterator.Search.{all_from_yields_List}
use Rattle.rules.specs.Image.{follows, ascend}
use Rattle.partition.proofs.Searches.{all_range}
use Rattle.partition.proofs.ascend.Goals as goal

pub returns : goal.returns
unfolding ascend
returns c = all_range (follows c.args.e) c.args.e.extents _ (all_from_yields_List (follows c.args.e) _ _ _ c.all.ensures.ran (YieldsList-from_range 0 _ c.args.e.extents refl (omega arith)) (λ x b q k. search rules))
