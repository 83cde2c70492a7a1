-- `words::put_meaning` meets its contract: an arm each, and the statuses behind them.
use Prim.Native.Nat.{ℕ}
use mathlib.Core.List.{List}
use borrow.Author.Rules.{rules}
use Rattle.reasons.specs.Words.{meanings, meaning_in, meaning, fed}
use Rattle.rules.specs.Text.{bytes_of}
use Rattle.reasons.proofs.WordLaws.{none_of}
use Rattle.reasons.proofs.PutLaws.{put_at}
use lib.ListN.{drop}
use Rattle.reasons.proofs.words.put_meaning.Goals as goal

abbrev said : ℕ → List ℕ
said status = fed (meaning status)

pub returns-in-0 : goal.returns-in-0
unfolding meanings meaning_in
returns-in-0 c = put_at said _ 0 _ _ _ _ c.in-0.is c.put_text.ensures

pub returns-in-1 : goal.returns-in-1
unfolding meanings meaning_in
returns-in-1 c = put_at said _ 1 _ _ _ _ c.in-1.is c.put_text-in-1.ensures

pub returns-in-2 : goal.returns-in-2
unfolding meanings meaning_in
returns-in-2 c = put_at said _ 2 _ _ _ _ c.in-2.is c.put_text-in-2.ensures

pub returns-in-4 : goal.returns-in-4
unfolding meanings meaning_in
returns-in-4 c = put_at said _ 4 _ _ _ _ c.in-4.is c.put_text-in-4.ensures

pub returns-in-5 : goal.returns-in-5
unfolding meanings meaning_in
returns-in-5 c = put_at said _ 5 _ _ _ _ c.in-5.is c.put_text-in-5.ensures

pub returns-in-6 : goal.returns-in-6
unfolding meanings meaning_in
returns-in-6 c = put_at said _ 6 _ _ _ _ c.in-6.is c.put_text-in-6.ensures

pub returns-in-7 : goal.returns-in-7
unfolding meanings meaning_in
returns-in-7 c = put_at said _ 7 _ _ _ _ c.in-7.is c.put_text-in-7.ensures

pub returns-in-8 : goal.returns-in-8
unfolding meanings meaning_in
returns-in-8 c = put_at said _ 8 _ _ _ _ c.in-8.is c.put_text-in-8.ensures

pub returns-in_default : goal.returns-in_default
unfolding meanings
returns-in_default c = put_at (λ words. fed (bytes_of words)) _ (meaning_in (drop 8 meanings) _) _ _ _ _ (none_of 8 meanings c.args.status (search rules)) c.put_later_meaning.ensures
