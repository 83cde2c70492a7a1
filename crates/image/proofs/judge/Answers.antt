-- `judge` meets its contract: the rules one by one, in the order of the paper, and the place that each tells.
use Rattle.rules.specs.declared.ImageRefusal.TheVariants.{ExtentNumbers, ExtentOrder, PagesShared, SourceTwice}
use Rattle.rules.specs.Image.{judged}
use Rattle.image.proofs.LoadLaws.{breaking_few, sharing_few, named_few, found_stops, found_passes, test_stops, test_passes}
use borrow.Author.Rules.{rules}
use Rattle.image.proofs.judge.Goals as goal

pub refuse-requires-clause-small : goal.refuse-requires-clause-small
refuse-requires-clause-small c = rw c.wrong_numbers.ensures (breaking_few _ _)

pub returns-in_err-refuse : goal.returns-in_err-refuse
unfolding judged
returns-in_err-refuse c = found_stops _ _ _ _ _ c.wrong_numbers.ensures _ c.from_residual.ensures.1 (c.in_err-refuse.ensures ExtentNumbers (λ g i r p. search rules))

pub refuse-requires-2-clause-small : goal.refuse-requires-2-clause-small
refuse-requires-2-clause-small c = rw c.out_of_order.ensures (breaking_few _ _)

pub returns-in_err-refuse-2 : goal.returns-in_err-refuse-2
unfolding judged
returns-in_err-refuse-2 c = found_passes _ _ _ _ _ c.wrong_numbers.ensures _ (c.in_ok-refuse.ensures ExtentNumbers (λ g i r p. search rules)) (found_stops _ _ _ _ _ c.out_of_order.ensures _ c.from_residual-in_err-refuse-2.ensures.1 (c.in_err-refuse-2.ensures ExtentOrder (λ g i r p. search rules)))

pub refuse-requires-3-clause-small : goal.refuse-requires-3-clause-small
refuse-requires-3-clause-small c = rw c.shares_before.ensures (sharing_few _)

pub returns-in_err-refuse-3 : goal.returns-in_err-refuse-3
unfolding judged
returns-in_err-refuse-3 c = found_passes _ _ _ _ _ c.wrong_numbers.ensures _ (c.in_ok-refuse.ensures ExtentNumbers (λ g i r p. search rules)) (found_passes _ _ _ _ _ c.out_of_order.ensures _ (c.in_ok-refuse-2.ensures ExtentOrder (λ g i r p. search rules)) (found_stops _ _ _ _ _ c.shares_before.ensures _ c.from_residual-in_err-refuse-3.ensures.1 (c.in_err-refuse-3.ensures PagesShared (λ g i r p. search rules))))

pub refuse-requires-4-clause-small : goal.refuse-requires-4-clause-small
refuse-requires-4-clause-small c = rw c.named_before.ensures (named_few _)

pub returns-in_err-refuse-4 : goal.returns-in_err-refuse-4
unfolding judged
returns-in_err-refuse-4 c = found_passes _ _ _ _ _ c.wrong_numbers.ensures _ (c.in_ok-refuse.ensures ExtentNumbers (λ g i r p. search rules)) (found_passes _ _ _ _ _ c.out_of_order.ensures _ (c.in_ok-refuse-2.ensures ExtentOrder (λ g i r p. search rules)) (found_passes _ _ _ _ _ c.shares_before.ensures _ (c.in_ok-refuse-3.ensures PagesShared (λ g i r p. search rules)) (found_stops _ _ _ _ _ c.named_before.ensures _ c.from_residual-in_err-refuse-4.ensures.1 (c.in_err-refuse-4.ensures SourceTwice (λ g i r p. search rules)))))

pub returns-then-not-filled_out : goal.returns-then-not-filled_out
unfolding judged
returns-then-not-filled_out c = found_passes _ _ _ _ _ c.wrong_numbers.ensures _ (c.in_ok-refuse.ensures ExtentNumbers (λ g i r p. search rules)) (found_passes _ _ _ _ _ c.out_of_order.ensures _ (c.in_ok-refuse-2.ensures ExtentOrder (λ g i r p. search rules)) (found_passes _ _ _ _ _ c.shares_before.ensures _ (c.in_ok-refuse-3.ensures PagesShared (λ g i r p. search rules)) (found_passes _ _ _ _ _ c.named_before.ensures _ (c.in_ok-refuse-4.ensures SourceTwice (λ g i r p. search rules)) (test_stops _ _ _ c.if-not-filled_out.ensures))))

pub returns : goal.returns
unfolding judged
returns c = found_passes _ _ _ _ _ c.wrong_numbers.ensures _ (c.in_ok-refuse.ensures ExtentNumbers (λ g i r p. search rules)) (found_passes _ _ _ _ _ c.out_of_order.ensures _ (c.in_ok-refuse-2.ensures ExtentOrder (λ g i r p. search rules)) (found_passes _ _ _ _ _ c.shares_before.ensures _ (c.in_ok-refuse-3.ensures PagesShared (λ g i r p. search rules)) (found_passes _ _ _ _ _ c.named_before.ensures _ (c.in_ok-refuse-4.ensures SourceTwice (λ g i r p. search rules)) (test_passes _ _ _ c.if-not-filled_out.ensures))))
