-- How much a line can say: an image of at most 1,024 bytes.
use Rattle.std.specs.Prelude.{if◌then◌else◌, Option, Some, None}
use mathlib.Core.Bool.{Bool, true, false}
use mathlib.Core.Path.{◌≡◌, refl}
use mathlib.Core.List.{List, [], ◌∷◌}
use Prim.Native.Nat.{ℕ, zero, suc, ◌*◌, ◌≤◌}
use native.Mathlib.Omega.{arith}
use lib.Dec.{leb, eqb}
use lib.ListN.{length, take, drop}
use borrow.Author.Tests.{leb-true}
use Rattle.rules.specs.Text.{bad, space, word_image, same, digit_of, consed, digits, byte_of, paired, paired_or, fields, image_or, event_or, event_line, line_of, pieces, parse}
use Rattle.text.specs.Pieces.{first_length, behind, unspaced}
use Rattle.text.specs.Lines.{image_of}
use Rattle.text.proofs.EventLaws.{event_or_bad}
use Rattle.text.proofs.PieceLaws.{pieces_split, joined_behind}

-- the length of a text that may be none
abbrev count : Option (List ℕ) → ℕ
count None = 0
count (Some bytes) = length bytes

-- two digits make a byte
halves : (ds : List ℕ) → 2 * count (paired ds) ≤ length ds
unfolding paired
halves [] = omega arith
halves (d ∷ []) = omega arith
halves (d ∷ (e ∷ ds)) = go (paired ds) (halves ds)
  where
    go : (o : Option (List ℕ)) → 2 * count o ≤ length ds → 2 * count (byte_of d e o) ≤ suc (suc (length ds))
    go None h = omega arith
    go (Some bytes) h = omega arith

-- a byte makes at most a digit
digits_few : (bs : List ℕ) → count (digits bs) ≤ length bs
unfolding digits
digits_few [] = omega arith
digits_few (b ∷ bs) = go (digit_of b) (digits bs) (digits_few bs)
  where
    go : (d o : _) → count o ≤ length bs → count (consed d o) ≤ suc (length bs)
    go None o h = omega arith
    go (Some d) None h = omega arith
    go (Some d) (Some ds) h = omega arith

pairs_few : (bs : List ℕ) → 2 * count (paired_or (digits bs)) ≤ length bs
pairs_few bs = go (digits bs) (digits_few bs)
  where
    go : (o : Option (List ℕ)) → count o ≤ length bs → 2 * count (paired_or o) ≤ length bs
    go None h = omega arith
    go (Some ds) h = omega (arith, halves ds)

unspaced_few : (bs : List ℕ) → length (unspaced bs) ≤ length bs
unfolding unspaced
unspaced_few [] = omega arith
unspaced_few (b ∷ bs) = go (eqb b space) (unspaced_few bs)
  where
    go : (t : Bool) → length (unspaced bs) ≤ length bs → length (if t then unspaced bs else b ∷ unspaced bs) ≤ suc (length bs)
    go true h = omega arith
    go false h = omega arith

drop_few : (n : ℕ) (bs : List ℕ) → length (drop n bs) ≤ length bs
drop_few zero bs = omega arith
drop_few (suc n) [] = omega arith
drop_few (suc n) (b ∷ bs) = omega (arith, drop_few n bs)

-- an event has no image's bytes
event_none : (word ns : List ℕ) → image_of (event_line word ns) ≡ []
unfolding image_of
event_none word ns = event_or_bad (λ l. image_of l ≡ []) refl (λ e. refl) word ns

-- a line of at most 2,048 bytes has an image of at most half as many
pub image_few : (s : List ℕ) → length (image_of (parse s)) ≤ 1024
unfolding parse image_of
image_few s = go (leb (length s) 2048) refl
  where
    rest : List ℕ
    rest = drop (first_length s) s

    bytes_few : 2 * count (paired_or (digits (unspaced rest))) ≤ length s
    bytes_few = omega (arith, pairs_few (unspaced rest), unspaced_few rest, drop_few (first_length s) s)

    of_image : (o : Option (List ℕ)) → 2 * count o ≤ 2048 → length (image_of (image_or o)) ≤ 1024
    of_image None h = omega arith
    of_image (Some bytes) h = omega arith

    of_event : (word : List ℕ) (o : Option (List ℕ)) → length (image_of (event_or word o)) ≤ 1024
    of_event word None = omega arith
    of_event word (Some ns) = rw (event_none word ns) (omega arith)

    of_line : (t : Bool) → length s ≤ 2048
        → length (image_of (if t then image_or (paired_or (digits (unspaced rest))) else event_or (take (first_length s) s) (fields (behind rest)))) ≤ 1024
    of_line true h = of_image (paired_or (digits (unspaced rest))) (omega (arith, bytes_few))
    of_line false h = of_event (take (first_length s) s) (fields (behind rest))

    go : (t : Bool) → leb (length s) 2048 ≡ t → length (image_of (if t then line_of (pieces [] s) else bad)) ≤ 1024
    go true e = rw (pieces_split s, joined_behind s) (of_line (same (take (first_length s) s) word_image) (leb-true _ _ e))
    go false e = omega arith
