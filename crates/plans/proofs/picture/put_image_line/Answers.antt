-- `picture::put_image_line` meets its contract: the word, the pairs and the line feed behind each other.
use Rattle.plans.proofs.PairLaws.{pairs_length, image_put}
use native.Mathlib.Omega.{arith}
use Rattle.plans.proofs.picture.put_image_line.Goals as goal

pub bounds-out-end : goal.bounds-out-end
bounds-out-end c = omega (arith, pairs_length c.args.bytes.now)

pub overflow_add-result : goal.overflow_add-result
overflow_add-result c = omega (arith, pairs_length c.args.bytes.now)

pub returns : goal.returns
returns c = image_put _ _ _ _ _ _ c.put_first-from.ensures c.put_pairs-end.ensures
