-- `words::put_later_meaning` meets its contract: an arm each, and the statuses of loading behind them.
use Prim.Native.Nat.{ℕ}
use mathlib.Core.List.{List}
use borrow.Author.Rules.{rules}
use Rattle.reasons.specs.Words.{meanings, meaning_in, fed}
use Rattle.rules.specs.Text.{bytes_of}
use Rattle.reasons.proofs.WordLaws.{none_of}
use Rattle.reasons.proofs.PutLaws.{put_at}
use lib.ListN.{drop}
use Rattle.reasons.proofs.words.put_later_meaning.Goals as goal

abbrev said : ℕ → List ℕ
said status = fed (bytes_of (meaning_in (drop 8 meanings) status))

pub returns-in-9 : goal.returns-in-9
unfolding meanings meaning_in
returns-in-9 c = put_at said _ 9 _ _ _ _ c.in-9.is c.put_text.ensures

pub returns-in-13 : goal.returns-in-13
unfolding meanings meaning_in
returns-in-13 c = put_at said _ 13 _ _ _ _ c.in-13.is c.put_text-in-13.ensures

pub returns-in-101 : goal.returns-in-101
unfolding meanings meaning_in
returns-in-101 c = put_at said _ 101 _ _ _ _ c.in-101.is c.put_text-in-101.ensures

pub returns-in-102 : goal.returns-in-102
unfolding meanings meaning_in
returns-in-102 c = put_at said _ 102 _ _ _ _ c.in-102.is c.put_text-in-102.ensures

pub returns-in-103 : goal.returns-in-103
unfolding meanings meaning_in
returns-in-103 c = put_at said _ 103 _ _ _ _ c.in-103.is c.put_text-in-103.ensures

pub returns-in-104 : goal.returns-in-104
unfolding meanings meaning_in
returns-in-104 c = put_at said _ 104 _ _ _ _ c.in-104.is c.put_text-in-104.ensures

pub returns-in_default : goal.returns-in_default
unfolding meanings
returns-in_default c = put_at (λ words. fed (bytes_of words)) _ (meaning_in (drop 14 meanings) _) _ _ _ _ (none_of 6 (drop 8 meanings) c.args.status (search rules)) c.put_image_meaning.ensures
