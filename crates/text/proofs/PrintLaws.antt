-- Laws of printing: the numbers of an answer, a number's digits, and numbers in a row.
use Rattle.std.proofs.Common.{Ok, Err}
use mathlib.Core.Path.{◌≡◌, refl, ap}
use mathlib.Core.List.{List, [], ◌∷◌, ◌++◌, append_assoc}
use mathlib.Core.Logic.{⊎_elim}
use Prim.Native.Nat.{ℕ, zero, suc, ◌+◌, ◌-◌, ◌*◌, ◌/◌, ◌%◌, ◌^◌, ◌<◌, ◌≤◌}
use native.Mathlib.Numerals.{add-one}
use native.Mathlib.Omega.{arith}
use lib.ListN.{length, get_or, take, set, length-append}
use lib.Seq.{sets, set-set, take_all}
use borrow.Author.Tests.{lt-ltb, le-ltb}
use Rattle.rules.specs.declared.Answer.{Answer}
use Rattle.rules.specs.declared.Answer.TheVariants.{Done, One, Two, Refused}
use Rattle.rules.specs.declared.ImageRefusal.{ImageRefusal}
use Rattle.rules.specs.declared.ImageRefusal.TheVariants.{ImageShort, HeaderOrCount, ExtentNumbers, ExtentOrder, PagesShared, SourceTwice, FillOrBehind}
use Rattle.rules.specs.Types.{Loading}
use Rattle.rules.specs.Statuses.{numbers, image_numbers, loading_numbers}
use Rattle.rules.specs.Text.{space, line_feed, digit_byte, hex_of, hex, spaced}
use Rattle.rules.proofs.Tests.{lt_or_ge}
use Rattle.text.proofs.Stores.{sets_append}
use Rattle.text.specs.Put.{Put, numeral}
use Rattle.text.proofs.PutLaws.{hex_numeral}
use Rattle.text.specs.Printed.{numbers_text, answer_text, loading_text}

-- one digit, and one more digit
one_digit : (k n : ℕ) → n < 16 → hex_of (suc k) n ≡ digit_byte n ∷ []
unfolding hex_of
one_digit k n h = rw (lt-ltb n 16 h)

more_digits : (k n : ℕ) → 16 ≤ n → hex_of (suc k) n ≡ hex_of k (n / 16) ++ (digit_byte (n % 16) ∷ [])
unfolding hex_of
more_digits k n h = rw (le-ltb n 16 h)

-- at most k digits
hex_most : (k n : ℕ) → length (hex_of k n) ≤ k
unfolding hex_of
hex_most zero n = omega arith
hex_most (suc k) n =
    ⊎_elim (λ l. rw (one_digit k n l) (omega arith))
    (λ g. rw (more_digits k n g, length-append) (omega (arith, hex_most k (n / 16))))
    (lt_or_ge n 16)

-- a number of 64 bits, as `put_number` writes it
module _ (n : ℕ) (h : n < 2 ^ 64) where
  pub hex_room : (at : ℕ) (m : List ℕ) → at + length (hex n) ≤ length m → at + length (numeral 16 n) ≤ length m
  hex_room at m g = rw (← hex_numeral 15 n h) g

  pub hex_put : (m o : List ℕ) (at r : ℕ) → Put m o at r (numeral 16 n) → (r ≡ at + length (hex n)) × (o ≡ sets m at (hex n))
  hex_put m o at r p = rw (hex_numeral 15 n h) (p.behind, p.bytes)

-- the first i numbers, each with a space behind it
unfoldable pub trailed : List ℕ → ℕ → List ℕ
trailed ns zero = []
trailed ns (suc i) = (trailed ns i ++ hex (get_or ns i 0)) ++ (space ∷ [])

spaced_next : (ns : List ℕ) (j : ℕ) → suc j < length ns → spaced (take (suc (suc j)) ns) ≡ spaced (take (suc j) ns) ++ (space ∷ hex (get_or ns (suc j) 0))
unfolding spaced
spaced_next [] j h = absurd (omega arith)
spaced_next (n ∷ []) j h = absurd (omega arith)
spaced_next (n ∷ (m ∷ ms)) zero h = refl
spaced_next (n ∷ (m ∷ ms)) (suc j) h = rw (spaced_next (m ∷ ms) j (omega arith), append_assoc)

trailed_spaced : (ns : List ℕ) (j : ℕ) → j < length ns → trailed ns (suc j) ≡ spaced (take (suc j) ns) ++ (space ∷ [])
unfolding trailed spaced
trailed_spaced [] j h = absurd (omega arith)
trailed_spaced (n ∷ ns) zero h = refl
trailed_spaced (n ∷ ns) (suc j) h =
    rw (trailed_spaced (n ∷ ns) j (omega arith), spaced_next (n ∷ ns) j h) (simp append_assoc)

trailed_most : (ns : List ℕ) (i : ℕ) → length (trailed ns i) ≤ 17 * i
unfolding trailed
trailed_most ns zero = omega arith
trailed_most ns (suc i) = simp length-append (omega (arith, trailed_most ns i, hex_most 16 (get_or ns i 0)))

-- a line feed over the last space
feed_over : (x m : List ℕ) (from : ℕ) → set (sets m from (x ++ (space ∷ []))) (from + length x) line_feed ≡ sets m from (x ++ (line_feed ∷ []))
feed_over x m from =
    let put : (v : ℕ) → set (sets m from x) (from + length x) v ≡ sets m from (x ++ (v ∷ [])) = λ v. sets_append x (v ∷ []) m from in
    rw (← put space, ← put line_feed, set-set)

fed_length : (ns : List ℕ) (j : ℕ) → j < length ns → length (trailed ns (suc j)) ≡ length (numbers_text (suc j) ns)
unfolding numbers_text
fed_length ns j h = rw (trailed_spaced ns j h, length-append, length-append)

fed : (ns m : List ℕ) (from j : ℕ) → j < length ns
    → set (sets m from (trailed ns (suc j))) (from + length (trailed ns (suc j)) - 1) line_feed ≡ sets m from (numbers_text (suc j) ns)
unfolding numbers_text
fed ns m from j h =
    let x : List ℕ = spaced (take (suc j) ns) in
    let e : from + length (x ++ (space ∷ [])) - 1 ≡ from + length x = rw length-append (omega arith) in
    rw (trailed_spaced ns j h, e) (feed_over x m from)

-- what `put_numbers` writes, of numbers ns over m from a place on
module _ (ns m : List ℕ) (from : ℕ) where
  pub trailed_start : (from ≡ from + length (trailed ns 0)) × (m ≡ sets m from (trailed ns 0))
  unfolding trailed
  trailed_start = (omega arith, refl)

  module _ (i at : ℕ) (o : List ℕ) (a : at ≡ from + length (trailed ns i)) (b : o ≡ sets m from (trailed ns i)) where
    pub trailed_room : i < 5 → at + length (hex (get_or ns i 0)) < from + 96
    trailed_room h = omega (arith, trailed_most ns i, hex_most 16 (get_or ns i 0))

    pub trailed_next : (r : ℕ) (p : List ℕ) → (r ≡ at + length (hex (get_or ns i 0))) × (p ≡ sets o at (hex (get_or ns i 0)))
        → (r + 1 ≡ from + length (trailed ns (i + 1))) × (set p r space ≡ sets m from (trailed ns (i + 1)))
    unfolding trailed
    trailed_next r p w =
        let t : List ℕ = trailed ns i in
        let h : List ℕ = hex (get_or ns i 0) in
        let e : p ≡ sets m from (t ++ h) = rw (w.1, a, b) (sets_append t h m from) in
        let l : r ≡ from + length (t ++ h) = rw length-append (omega arith) in
        rw (add-one i, length-append) (omega arith, rw (e, l) (sets_append (t ++ h) (space ∷ []) m from))

    module _ (count : ℕ) (u : i ≤ count) (v : count ≤ i) (f : 1 ≤ count) where
      pub trailed_some : (from < at) × (at ≤ from + 17 * i)
      unfolding trailed
      trailed_some = (go i refl a, omega (arith, trailed_most ns i))
        where
          go : (k : ℕ) → k ≡ i → at ≡ from + length (trailed ns k) → from < at
          go zero q e = absurd (omega arith)
          go (suc j) q e = omega (arith, simp length-append at e)

      pub trailed_end : count ≤ length ns → (at ≡ from + length (numbers_text count ns)) × (set o (at - 1) line_feed ≡ sets m from (numbers_text count ns))
      trailed_end l = go count f (omega arith) l
        where
          go : (k : ℕ) → 1 ≤ k → i ≡ k → k ≤ length ns → (at ≡ from + length (numbers_text k ns)) × (set o (at - 1) line_feed ≡ sets m from (numbers_text k ns))
          go zero g q n = absurd (omega arith)
          go (suc j) g q n = rw (b, a, q) (rw (fed_length ns j n), fed ns m from j n)

-- the numbers, as the code takes the first count of them
pub taken_end : (ns m o : List ℕ) (from count at : ℕ) → count ≤ length ns
    → (at ≡ from + length (numbers_text (length (take count ns)) (take count ns))) × (set o (at - 1) line_feed ≡ sets m from (numbers_text (length (take count ns)) (take count ns)))
    → (at ≡ from + length (numbers_text count ns)) × (set o (at - 1) line_feed ≡ sets m from (numbers_text count ns))
unfolding numbers_text
taken_end ns m o from count at h w = rw (take_all (length (take count ns)) (take count ns) (omega arith)) at w

-- as many bytes as its digits, and one more for each number
pub numbers_most : (ns : List ℕ) (j : ℕ) → j < length ns → length (numbers_text (suc j) ns) ≤ 17 * suc j
numbers_most ns j h = rw (← fed_length ns j h) (trailed_most ns (suc j))

-- a line of five numbers, and of three
answer_line : (a : Answer) → numbers_text 5 (numbers a) ≡ answer_text a
unfolding numbers_text answer_text numbers
answer_line Done = refl
answer_line (One v) = refl
answer_line (Two v w) = refl
answer_line (Refused why) = refl

module _ (a : Answer) (ns m : List ℕ) (e : ns ≡ numbers a) (at r : ℕ) (o : List ℕ) where
  pub answer_printed : (r ≡ at + length (numbers_text 5 ns)) × (o ≡ sets m at (numbers_text 5 ns)) → (r ≡ at + length (answer_text a)) × (o ≡ sets m at (answer_text a))
  answer_printed w = rw (← answer_line a, ← e) w

-- the first three of five numbers
abbrev three : List ℕ → List ℕ
three ns = get_or ns 0 0 ∷ get_or ns 1 0 ∷ get_or ns 2 0 ∷ 0 ∷ 0 ∷ []

image_three : (why : ImageRefusal) → take 3 (three (image_numbers why)) ≡ image_numbers why
unfolding image_numbers
image_three ImageShort = refl
image_three (HeaderOrCount guest) = refl
image_three (ExtentNumbers guest at) = refl
image_three (ExtentOrder guest at) = refl
image_three (PagesShared guest at) = refl
image_three (SourceTwice guest at) = refl
image_three (FillOrBehind guests) = refl

loading_three : (a : Loading) → take 3 (three (loading_numbers a)) ≡ loading_numbers a
unfolding loading_numbers
loading_three (Ok u) = refl
loading_three (Err why) = image_three why

loading_line : (a : Loading) → numbers_text 3 (three (loading_numbers a)) ≡ loading_text a
unfolding numbers_text loading_text
loading_line a = ap (λ (ns : List ℕ). spaced ns ++ (line_feed ∷ [])) (loading_three a)

pub loading_printed : (a : Loading) (ns m : List ℕ) → ns ≡ loading_numbers a → (at r : ℕ) (o : List ℕ)
    → (r ≡ at + length (numbers_text 3 (three ns))) × (o ≡ sets m at (numbers_text 3 (three ns))) → (r ≡ at + length (loading_text a)) × (o ≡ sets m at (loading_text a))
loading_printed a ns m e at r o w = rw (← loading_line a, ← e) w

five : (a : Answer) → length (numbers a) ≡ 5
unfolding numbers
five Done = refl
five (One v) = refl
five (Two v w) = refl
five (Refused why) = refl

-- an answer's line has at most 85 bytes, and an image's at most 51
pub answer_most : (a : Answer) → length (answer_text a) ≤ 85
answer_most a = rw (← answer_line a) (numbers_most (numbers a) 4 (omega (arith, five a)))

pub loading_most : (a : Loading) → length (loading_text a) ≤ 51
loading_most a = rw (← loading_line a) (numbers_most (three (loading_numbers a)) 2 (omega arith))
