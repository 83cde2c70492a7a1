-- Powers of two from a least to a most one.
use mathlib.Core.Path.{◌≡◌, refl, sym, ◌∙◌}
use mathlib.Core.Bool.{Bool, true, false, ◌&&◌, false≢true}
use Prim.Native.Nat.{ℕ, zero, suc, ◌+◌, ◌*◌, ◌/◌, ◌%◌, ◌^◌, ◌≤◌, ◌<◌}
use native.Mathlib.Omega.{arith}
use native.Mathlib.Nat.{pow-suc}
use lib.Dec.{eqb, leb}
use lib.Count.{ones_step}
use borrow.Author.Tests.{eq-eqb, ne_eqb, eqb-true, leb-true}
use Rattle.std.proofs.lemmas.Nat.{zero_from_ones, ones_le_self}
use Rattle.std.specs.Int.{is_power_of_two}
use Rattle.std.specs.Int.RustNames.{count_ones}
use Rattle.rules.specs.Scan.{some_below, ◌is_from◌to◌, power_of_two◌from◌to◌}
use Rattle.rules.proofs.Scan.{none_of, some_found}
use Rattle.rules.proofs.Tests.{and_left, and_right}

-- a power of two has one bit set,
ones_of_power : (k : ℕ) → count_ones (2 ^ k) ≡ 1
ones_of_power zero = let s = ones_step 1 in omega (arith, ones_le_self 0)
ones_of_power (suc k) =
    let double : 2 ^ suc k ≡ 2 ^ k * 2 = pow-suc 2 k in
    let half : 2 ^ suc k / 2 ≡ 2 ^ k = omega arith in
    let even : 2 ^ suc k % 2 ≡ 0 = omega arith in
    let rest : count_ones (2 ^ suc k / 2) ≡ 1 = rw half (ones_of_power k) in
    omega (arith, ones_step (2 ^ suc k))

-- and a number of k bits with one bit set is one of the first k powers of two
power_of_ones : (k n : ℕ) → n < 2 ^ k → count_ones n ≡ 1 → (j : ℕ) × (j < k) × (n ≡ 2 ^ j)
power_of_ones zero n h e = absurd (omega (arith, ones_le_self n))
power_of_ones (suc k) n h e = go (λ l q. power_of_ones k (n / 2) l q) (n % 2) refl
  where
    step : count_ones n ≡ n % 2 + count_ones (n / 2)
    step = ones_step n

    go : (n / 2 < 2 ^ k → count_ones (n / 2) ≡ 1 → (j : ℕ) × (j < k) × (n / 2 ≡ 2 ^ j)) → (r : ℕ) → n % 2 ≡ r → (j : ℕ) × (j < suc k) × (n ≡ 2 ^ j)
    go half zero q =
        let found = half (omega (arith, pow-suc 2 k)) (omega (arith, step)) in
        (suc found.0, omega (arith, found.1), omega (arith, found.2, pow-suc 2 found.0))
    go half (suc r) q = (0, omega arith, omega (arith, zero_from_ones (n / 2) (omega (arith, step))))

one_of : (n : ℕ) → n < 2 ^ 64 → is_power_of_two n ≡ some_below 64 (λ k. eqb n (2 ^ k))
one_of n h = go (is_power_of_two n) refl
  where
    go : (t : Bool) → is_power_of_two n ≡ t → t ≡ some_below 64 (λ k. eqb n (2 ^ k))
    go true e =
        let found = power_of_ones 64 n h (eqb-true _ _ e) in
        some_found (λ k. eqb n (2 ^ k)) found.0 64 true found.1 (sym (eq-eqb _ _ found.2)) refl
    go false e = sym (none_of (λ k. eqb n (2 ^ k)) 64 (λ k w. ne_eqb _ _ (λ q. false≢true (sym e ∙ eq-eqb _ _ (rw q (ones_of_power k))))))

-- so a number of 64 bits is such a power if it has one bit set and lies between
pub one_bit : (n least most : ℕ) → n < 2 ^ 64 → (power_of_two n from least to most) ≡ (is_power_of_two n && (leb least n && leb n most))
unfolding power_of_two◌from◌to◌
one_bit n least most h = rw (one_of n h)

module _ (n least most : ℕ) (e : (power_of_two n from least to most) ≡ true) where
  between : (n is_from least to most) ≡ true
  unfolding power_of_two◌from◌to◌
  between = and_right (some_below 64 (λ k. eqb n (2 ^ k))) (n is_from least to most) e

  pub at_least : least ≤ n
  at_least = leb-true least n (and_left (leb least n) (leb n most) between)

  pub at_most : n ≤ most
  at_most = leb-true n most (and_right (leb least n) (leb n most) between)
