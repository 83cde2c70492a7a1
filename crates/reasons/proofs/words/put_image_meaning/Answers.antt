-- `words::put_image_meaning` meets its contract: an arm each.
use Prim.Native.Nat.{ℕ}
use mathlib.Core.List.{List}
use borrow.Author.Rules.{rules}
use Rattle.reasons.specs.Words.{meanings, meaning_in, no_meaning, fed}
use Rattle.rules.specs.Text.{bytes_of}
use Rattle.reasons.proofs.WordLaws.{none_of}
use Rattle.reasons.proofs.PutLaws.{put_at}
use lib.ListN.{drop}
use Rattle.reasons.proofs.words.put_image_meaning.Goals as goal

abbrev said : ℕ → List ℕ
said status = fed (bytes_of (meaning_in (drop 14 meanings) status))

pub returns-in-110 : goal.returns-in-110
unfolding meanings meaning_in
returns-in-110 c = put_at said _ 110 _ _ _ _ c.in-110.is c.put_text.ensures

pub returns-in-111 : goal.returns-in-111
unfolding meanings meaning_in
returns-in-111 c = put_at said _ 111 _ _ _ _ c.in-111.is c.put_text-in-111.ensures

pub returns-in-112 : goal.returns-in-112
unfolding meanings meaning_in
returns-in-112 c = put_at said _ 112 _ _ _ _ c.in-112.is c.put_text-in-112.ensures

pub returns-in-113 : goal.returns-in-113
unfolding meanings meaning_in
returns-in-113 c = put_at said _ 113 _ _ _ _ c.in-113.is c.put_text-in-113.ensures

pub returns-in-114 : goal.returns-in-114
unfolding meanings meaning_in
returns-in-114 c = put_at said _ 114 _ _ _ _ c.in-114.is c.put_text-in-114.ensures

pub returns-in-115 : goal.returns-in-115
unfolding meanings meaning_in
returns-in-115 c = put_at said _ 115 _ _ _ _ c.in-115.is c.put_text-in-115.ensures

pub returns-in-116 : goal.returns-in-116
unfolding meanings meaning_in
returns-in-116 c = put_at said _ 116 _ _ _ _ c.in-116.is c.put_text-in-116.ensures

pub returns-in_default : goal.returns-in_default
unfolding meanings meaning_in
returns-in_default c = put_at (λ words. fed (bytes_of words)) _ no_meaning _ _ _ _ (none_of 7 (drop 14 meanings) c.args.status (search rules)) c.put_text-in_default.ensures
