-- Laws of writing: a text byte by byte, a number digit by digit, and one behind another.
use mathlib.Core.Path.{◌≡◌, subst⁻¹}
use mathlib.Core.List.{List, [], ◌∷◌, ◌++◌}
use mathlib.Core.Logic.{⊎_elim}
use Prim.Native.Nat.{ℕ, zero, suc, ◌+◌, ◌/◌, ◌%◌, ◌^◌, ◌<◌, ◌≤◌}
use native.Mathlib.Nat.{pow-suc}
use native.Mathlib.Omega.{arith}
use lib.ListN.{length, length-append}
use borrow.Author.Tests.{lt-ltb, le-ltb}
use Rattle.rules.proofs.Tests.{lt_or_ge}
use Rattle.reasons.specs.Words.{decimal_of, decimal}
use Rattle.rules.specs.Text.{digit_byte}
use Rattle.text.specs.Put.{numeral}
pub use Rattle.text.proofs.PutLaws.{put_behind}
use Rattle.text.proofs.PutLaws.{numeral_one, numeral_more}
use Rattle.reasons.specs.Put.{Put}

-- a text that a definition gives at y, and so at an x that is y
pub put_at : {A : Type 0} (f : A → List ℕ) (x y : A) (m o : List ℕ) (at r : ℕ) → x ≡ y → Put m o at r (f y) → Put m o at r (f x)
put_at f x y m o at r e p = subst⁻¹ (λ z. Put m o at r (f z)) e p

-- one digit, and one more digit
one_digit : (k n : ℕ) → n < 10 → decimal_of (suc k) n ≡ (0x30 + n) ∷ []
unfolding decimal_of
one_digit k n h = rw (lt-ltb n 10 h)

more_digits : (k n : ℕ) → 10 ≤ n → decimal_of (suc k) n ≡ decimal_of k (n / 10) ++ ((0x30 + n % 10) ∷ [])
unfolding decimal_of
more_digits k n h = rw (le-ltb n 10 h)

-- at most k digits
pub decimal_most : (k n : ℕ) → length (decimal_of k n) ≤ k
unfolding decimal_of
decimal_most zero n = omega arith
decimal_most (suc k) n =
    ⊎_elim (λ l. rw (one_digit k n l) (omega arith))
    (λ g. rw (more_digits k n g, length-append) (omega (arith, decimal_most k (n / 10))))
    (lt_or_ge n 10)

-- a number of 64 bits, as `put_number` writes it
below_ten : (d : ℕ) → d < 10 → digit_byte d ≡ 0x30 + d
below_ten d h = rw (lt-ltb d 10 h)

decimal_numeral : (k n : ℕ) → n < 10 ^ suc k → decimal_of (suc k) n ≡ numeral 10 n
decimal_numeral zero n h = rw (one_digit 0 n (omega arith), numeral_one 10 n (omega arith), below_ten n (omega arith))
decimal_numeral (suc k) n h =
    ⊎_elim (λ l. rw (one_digit (suc k) n l, numeral_one 10 n l, below_ten n l))
    (λ g. rw (more_digits (suc k) n g, numeral_more 10 (omega arith) n g, decimal_numeral k (n / 10) (omega (arith, pow-suc 10 (suc k))), below_ten (n % 10) (omega arith)))
    (lt_or_ge n 10)

module _ (n : ℕ) (h : n < 2 ^ 64) where
  pub decimal_room : (at : ℕ) (m : List ℕ) → at + length (decimal n) ≤ length m → at + length (numeral 10 n) ≤ length m
  decimal_room at m g = rw (← decimal_numeral 19 n (omega arith)) g

  pub decimal_put : (m o : List ℕ) (at r : ℕ) → Put m o at r (numeral 10 n) → Put m o at r (decimal n)
  decimal_put m o at r p = rw (decimal_numeral 19 n (omega arith)) p
