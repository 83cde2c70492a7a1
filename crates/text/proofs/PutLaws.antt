-- Laws of writing: a text, and a number digit by digit.
use Rattle.std.proofs.Common.{◌≡◌, ◌++◌, ◌∷◌, [], List, ℕ, zero, suc, ◌+◌, ◌-◌, ◌/◌, ◌%◌, ◌^◌, ◌<◌, ◌≤◌, refl, append_assoc, arith, length, take, drop, length-append}
use native.Mathlib.Nat.{pow-suc}
use lib.ListN.{set}
use lib.Seq.{sets-eq, drop-drop}
use mathlib.Core.Logic.{⊎_elim}
use borrow.Author.Tests.{lt-ltb, le-ltb}
use mathlib.Core.List.{map}
use Rattle.std.proofs.Math.Nat.{div-lt_self, div-eq_of_lt, mod-eq_of_lt}
use Rattle.std.proofs.lemmas.Nat.{le-div}
use Rattle.std.proofs.lemmas.List.{map-append}
use Rattle.std.specs.Int.Digits.{digits_of}
use Rattle.std.proofs.lemmas.Int.Digits.{digits_of_step}
use Rattle.rules.proofs.Tests.{lt_or_ge}
use Rattle.rules.specs.Text.{digit_byte, hex_of}
use Rattle.text.specs.Put.{Put, numeral}
use Rattle.text.proofs.Stores.{sets_append}

-- what a copy leaves in the part of an array that the text takes
pub text_put : (text m t : List ℕ) (at : ℕ) → t ≡ text → at + length text ≤ length m
    → Put m (take at m ++ (t ++ drop (at + length text - at) (drop at m))) at (at + length text) text
text_put text m t at e h =
    let k : at + length text - at ≡ length text = omega arith in
    let d : drop (length text) (drop at m) ≡ drop (at + length text) m = drop-drop (length text) at m in
    record { behind = refl; bytes = rw (e, k, d, sets-eq text m at h, append_assoc) }

-- a text behind another
pub put_behind : (a b m n o : List ℕ) (at r s : ℕ) → Put m n at r a → Put n o r s b → Put m o at s (a ++ b)
put_behind a b m n o at r s p q = record {
  behind = rw (q.behind, p.behind, length-append) (omega arith);
  bytes = rw (q.bytes, p.bytes, p.behind) (sets_append a b m at);
}

-- one digit, and one more digit
pub numeral_one : (base n : ℕ) → n < base → numeral base n ≡ digit_byte n ∷ []
unfolding numeral
numeral_one base n h = rw (lt-ltb n base h)

module _ (base : ℕ) (h : 2 ≤ base) where
  numeral_digits : (n : ℕ) → 0 < n → numeral base n ≡ map digit_byte (digits_of base n)
  unfolding numeral
  numeral_digits n p =
      ⊎_elim (λ l. rw (lt-ltb n base l, digits_of_step base n h p, div-eq_of_lt l, mod-eq_of_lt l)) (λ g. rw (le-ltb n base g))
      (lt_or_ge n base)

  module _ (n : ℕ) (g : base ≤ n) where
    pub numeral_less : n / base < n
    numeral_less = div-lt_self (omega arith) (omega arith)

    pub numeral_more : numeral base n ≡ numeral base (n / base) ++ (digit_byte (n % base) ∷ [])
    numeral_more =
        let p : 0 < n / base = le-div 1 n base (omega arith) (omega arith) in
        rw (numeral_digits n (omega arith), numeral_digits (n / base) p, digits_of_step base n h (omega arith), map-append)

-- what `put_number` writes over m, and that it has room
module _ (base n at : ℕ) (m : List ℕ) (room : at + length (numeral base n) ≤ length m) where
  module _ (l : n < base) where
    pub number_place : at < length m
    number_place = omega (arith, rw (numeral_one base n l) at room)

    pub number_few : (d : ℕ) → d ≡ digit_byte n → Put m (set m at d) at (at + 1) (numeral base n)
    number_few d e = rw (numeral_one base n l, e) (record { behind = refl; bytes = refl })

  module _ (h : 2 ≤ base) (g : base ≤ n) where
    pub number_fits : at + length (numeral base (n / base)) < length m
    number_fits = omega (arith, rw (numeral_more base h n g, length-append) at room)

    pub number_more : (o : List ℕ) (r d : ℕ) → d ≡ digit_byte (n % base) → Put m o at r (numeral base (n / base)) → Put m (set o r d) at (r + 1) (numeral base n)
    number_more o r d e p = rw (numeral_more base h n g) (put_behind _ _ m o _ at r (r + 1) p (record { behind = refl; bytes = rw e }))

-- at most 16 hex digits, and they are those of the rules
pub hex_numeral : (k n : ℕ) → n < 16 ^ suc k → hex_of (suc k) n ≡ numeral 16 n
unfolding hex_of
hex_numeral zero n h = rw (lt-ltb n 16 (omega arith), numeral_one 16 n (omega arith))
hex_numeral (suc k) n h =
    ⊎_elim (λ l. rw (lt-ltb n 16 l, numeral_one 16 n l))
    (λ g. rw (le-ltb n 16 g, numeral_more 16 (omega arith) n g, hex_numeral k (n / 16) (omega (arith, pow-suc 16 (suc k)))))
    (lt_or_ge n 16)
