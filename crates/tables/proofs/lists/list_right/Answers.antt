-- `tables::lists::list_right` meets its contract: the first places and the others each pass their test, or there are fewer places than the count.
use Rattle.std.proofs.Common.{arith}
use Rattle.tables.proofs.Parts.{parts_right, too_many}
use Rattle.tables.proofs.lists.list_right.Goals as goal

pub returns-in-Some : goal.returns-in-Some
returns-in-Some g c = λ p q d a b. parts_right d p q _ _ _ _ _ _ _ c.from.ensures c.in-Some.ensures.cases (c.every.ensures p a) (c.every-in-Some.ensures q b)

pub returns-in-None : goal.returns-in-None
returns-in-None g c = λ p q d a b. too_many _ _ _ _ (omega (arith, c.in-None.ensures.cases))
