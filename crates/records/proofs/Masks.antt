-- Laws of the page index and the page mask.
use mathlib.Core.Path.{◌≡◌, refl, sym, ◌∙◌}
use mathlib.Core.Bool.{true, false, false≢true}
use Prim.Native.Nat.{ℕ, zero, suc, ◌+◌, ◌*◌, ◌/◌, ◌%◌, ◌^◌, ◌≤◌, ◌<◌}
use native.Mathlib.Omega.{arith}
use native.Mathlib.Nat.{lt_of_not-le, pow-suc}
use native.Mathlib.Numerals.{add-one}
use lib.Count.{count_trailing_zeros, under}
use lib.Dec.{eqb, leb, eqb-zero-suc, eqb-suc-zero, eqb-suc-suc}
use lib.Pow.{mod-pow-add}
use lib.Bits.{bit_and}
use borrow.Author.Tests.{eq-eqb, ne_eqb, eqb-true, leb-true, le-leb}
use Rattle.std.specs.Int.{w32, bit_at, bit_not}
use Rattle.std.proofs.lemmas.Nat.{and_le_r}
use Rattle.std.proofs.lemmas.Nat.Bits.{bit_at_and, bit_at_not, bit_at-lt, bit_at-zero, same_from_bits_below}
use Rattle.rules.specs.Tsb.{is_page_index, is_lowest, ◌is_inside◌}
use Rattle.rules.proofs.Scan.{all_of, all_at}
use Rattle.rules.proofs.Tests.{eqb_same, bool_same}
use Rattle.records.specs.Masks.{lowest_index}

-- no page index lies past the end of a mask
index_below : (k : ℕ) → true ≡ is_page_index k → k < 32
unfolding is_page_index
index_below k e = lt_of_not-le (λ h. false≢true (rw (ne_eqb k 0 (λ q. omega arith), ne_eqb k 1 (λ q. omega arith), ne_eqb k 3 (λ q. omega arith), ne_eqb k 5 (λ q. omega arith)) at (sym e)))

-- the lowest bit set in an even number is that of its half, one place up; in an odd one it is bit 0
module _ (m k : ℕ) where
  low_bits : m % 2 ^ (suc k + 1) ≡ (m / 2 % 2 ^ (k + 1)) * 2 + m % 2
  low_bits = rw (add-one k) (mod-pow-add m (suc k) 1)

  bit_up : 2 ^ suc k ≡ 2 ^ k * 2
  bit_up = pow-suc 2 k

  lowest_even : m % 2 ≡ 0 → is_lowest m (suc k) ≡ is_lowest (m / 2) k
  lowest_even e =
      eqb_same (m % 2 ^ (suc k + 1)) (2 ^ suc k) (m / 2 % 2 ^ (k + 1)) (2 ^ k)
      (λ q. omega (arith, low_bits, bit_up)) (λ q. omega (arith, low_bits, bit_up))

  lowest_odd : m % 2 ≡ 1 → is_lowest m (suc k) ≡ false
  lowest_odd e = ne_eqb (m % 2 ^ (suc k + 1)) (2 ^ suc k) (λ q. omega (arith, low_bits, bit_up))

-- k zeros stand below the lowest bit set in a number of d bits exactly if, of its bits up to k, that one alone is set
zeros_below : (k d m : ℕ) → k < d → eqb k (count_trailing_zeros d m) ≡ is_lowest m k
unfolding count_trailing_zeros
zeros_below k zero m h = absurd (omega arith)
zeros_below zero (suc d) m h = go (m % 2) refl
  where
    go : (r : ℕ) → m % 2 ≡ r → eqb 0 (under r (count_trailing_zeros d (m / 2))) ≡ is_lowest m 0
    go zero e = rw (e) (eqb-zero-suc (count_trailing_zeros d (m / 2)))
    go (suc r) e = sym (eq-eqb (m % 2) 1 (omega arith))
zeros_below (suc k) (suc d) m h = go (zeros_below k d (m / 2) (omega arith)) (m % 2) refl
  where
    go : eqb k (count_trailing_zeros d (m / 2)) ≡ is_lowest (m / 2) k → (r : ℕ) → m % 2 ≡ r → eqb (suc k) (under r (count_trailing_zeros d (m / 2))) ≡ is_lowest m (suc k)
    go ih zero e = eqb-suc-suc k (count_trailing_zeros d (m / 2)) ∙ ih ∙ sym (lowest_even m k e)
    go ih (suc r) e = eqb-suc-zero k ∙ sym (lowest_odd m k (omega arith))

-- so a page index, the number k, is the lowest bit set in a mask exactly if it is the count of zeros
pub lowest_counted : (mask index k : ℕ) → is_page_index index ≡ true → k ≡ index → eqb k (count_trailing_zeros 32 mask) ≡ lowest_index mask index
unfolding lowest_index
lowest_counted mask index k p q = rw (p, q) (zeros_below index 32 mask (index_below index (sym p)))

-- A mask of 32 bits lies inside the allowed ones exactly if none of its bits is one of the others. Where it does, no bit of it is set
-- that the others have,
inside_none : (m a : ℕ) → a < 2 ^ 32 → (m is_inside a) ≡ true → bit_and m (bit_not w32 a) ≡ 0
unfolding ◌is_inside◌
inside_none m a w e =
    same_from_bits_below 32 _ 0 (omega (arith, and_le_r m (bit_not w32 a))) (omega arith)
    (λ i h.
    let inside : bit_at m i ≤ bit_at a i = leb-true _ _ (all_at (λ k. leb (m / 2 ^ k % 2) (a / 2 ^ k % 2)) 32 i e h) in
    omega (arith, bit_at_and m (bit_not w32 a) i, bit_at_not w32 a i w h, bit_at-lt m i, bit_at-lt a i, bit_at-zero i))

-- and the other way
none_inside : (m a : ℕ) → a < 2 ^ 32 → bit_and m (bit_not w32 a) ≡ 0 → (m is_inside a) ≡ true
unfolding ◌is_inside◌
none_inside m a w e =
    all_of (λ k. leb (m / 2 ^ k % 2) (a / 2 ^ k % 2)) 32
    (λ i h.
    let none : bit_at (bit_and m (bit_not w32 a)) i ≡ 0 = rw e (bit_at-zero i) in
    le-leb _ _ (omega (arith, bit_at_and m (bit_not w32 a) i, bit_at_not w32 a i w h, bit_at-lt m i, bit_at-lt a i)))

pub inside_by_mask : (m : ℕ) → eqb (bit_and m 0xffff_ffd4) 0 ≡ (m is_inside 0x2b)
inside_by_mask m =
    bool_same _ _ (λ e. none_inside m 0x2b (omega arith) (eqb-true _ _ e)) (λ e. eq-eqb _ _ (inside_none m 0x2b (omega arith) e))
