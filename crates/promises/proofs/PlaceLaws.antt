-- Scans over the places of the host's guests, of which each has so many: place (g, i) is number size * g + i of the scan.
use Rattle.std.proofs.Common.{Some, None}
use mathlib.Core.Path.{◌≡◌, refl, sym, ◌∙◌}
use mathlib.Core.Bool.{Bool, true, false, ◌||◌, true≢false}
use mathlib.Core.Logic.{inl, inr}
use Prim.Native.Nat.{ℕ, zero, suc, ◌+◌, ◌*◌, ◌/◌, ◌%◌, ◌≤◌, ◌<◌}
use native.Mathlib.Nat.{div-add-mod, mod-lt, mul-le-mul_left, mul-suc}
use native.Mathlib.Omega.{arith}
use lib.Dec.{ltb}
use borrow.Author.Tests.{ltb-true, ltb-false}
use Rattle.rules.specs.Limits.{guest_limit}
use Rattle.rules.specs.Scan.{some_below, first_below}
use Rattle.rules.proofs.Scan.{some_found, first_tells, first_below_lem, nothing_at}
use Rattle.promises.specs.Places.{Before, First, Nowhere}

-- what a search for some number found
pub some_tells : (p : ℕ → Bool) (n : ℕ) → some_below n p ≡ true → (i : ℕ) × ((i < n) × (p i ≡ true))
unfolding some_below
some_tells p zero e = absurd (true≢false (sym e))
some_tells p (suc n) e = go (some_tells p n) (some_below n p) (p n) refl refl e
  where
    go : (some_below n p ≡ true → (i : ℕ) × ((i < n) × (p i ≡ true))) → (s t : Bool) → some_below n p ≡ s → p n ≡ t → (s || t) ≡ true → (i : ℕ) × ((i < suc n) × (p i ≡ true))
    go before true t a b q =
        let w = before a in
        (w.0, (omega (arith, w.1.0), w.1.1))
    go before false true a b q = (n, (omega arith, b))
    go before false false a b q = absurd (true≢false (sym q))

-- a fault at (g, i), which is one of the places that are looked at: the test holds there, or of a number before it
pub record Seen (size : ℕ) (p : ℕ → Bool) (g i : ℕ) : Type 0 where
  among : size * g + i < guest_limit * size
  position : i < size
  number : ℕ
  no_later : number ≤ size * g + i
  holds : p number ≡ true

module _ (size : ℕ) (some : 0 < size) where
  -- a guest's places lie before those of a later guest
  guests_apart : (f g : ℕ) → f < g → size * f + size ≤ size * g
  guests_apart f g h =
      let l : size * suc f ≤ size * g = mul-le-mul_left size h in
      omega (arith, mul-suc size f)

  pub seen_by : (p : ℕ → Bool) (g i m : ℕ) → g < guest_limit → i < size → m ≤ i → p (size * g + m) ≡ true → Seen size p g i
  seen_by p g i m h l q e = record {
    among = omega (arith, guests_apart g guest_limit h);
    position = l;
    number = size * g + m;
    no_later = omega arith;
    holds = e;
  }

  -- numbers follow one another as their places do
  earlier_number : (f j g i : ℕ) → j < size → Before f j g i → size * f + j < size * g + i
  earlier_number f j g i h (inl l) = omega (arith, guests_apart f g l)
  earlier_number f j g i h (inr (e, l)) = rw e (omega arith)

  pub some_earlier : (p : ℕ → Bool) (f j g i : ℕ) → j < size → Before f j g i → p (size * f + j) ≡ true → some_below (size * g + i) p ≡ true
  some_earlier p f j g i h b e = sym (some_found p (size * f + j) (size * g + i) true (earlier_number f j g i h b) (sym e) refl)

  pub earlier_place : (a b : ℕ) → a < b → Before (a / size) (a % size) (b / size) (b % size)
  earlier_place a b h = go (ltb (a / size) (b / size)) refl (ltb (b / size) (a / size)) refl
    where
      whole : size * (a / size) + a % size < size * (b / size) + b % size
      whole = rw (div-add-mod a size, div-add-mod b size) h

      go : (s : Bool) → ltb (a / size) (b / size) ≡ s → (t : Bool) → ltb (b / size) (a / size) ≡ t → Before (a / size) (a % size) (b / size) (b % size)
      go true l t m = inl (ltb-true (a / size) (b / size) l)
      go false l true m = absurd (omega (arith, whole, guests_apart (b / size) (a / size) (ltb-true (b / size) (a / size) m), mod-lt b some))
      go false l false m =
          let q : a / size ≡ b / size = omega (arith, ltb-false (a / size) (b / size) l, ltb-false (b / size) (a / size) m) in
          inr (q, omega (arith, rw q at whole))

  -- a test that finds faults, and each fault of which is seen
  module _ (p : ℕ → Bool) (Fault : ℕ → ℕ → Type 0) (finds : (k : ℕ) → k < guest_limit * size → p k ≡ true → Fault (k / size) (k % size)) (seen : (g i : ℕ) → Fault g i → Seen size p g i) where
    none_below : (k f j : ℕ) → first_below k p ≡ None → (s : Seen size p f j) → size * f + j < k → ⊥
    none_below k f j e s h = true≢false (sym s.holds ∙ nothing_at p k s.number e (omega (arith, s.no_later)))

    pub first_place : (k : ℕ) → first_below (guest_limit * size) p ≡ Some k → First Fault (k / size) (k % size)
    first_place k e =
        let t = first_tells p (guest_limit * size) k e in
        record {
          fault = finds k (first_below_lem (guest_limit * size) k p e) t.0;
          none_before = λ f j b x.
              let s = seen f j x in
              none_below k f j t.1 s (rw (div-add-mod k size) at (earlier_number f j (k / size) (k % size) s.position b));
        }

    pub no_place : first_below (guest_limit * size) p ≡ None → Nowhere Fault
    no_place e g i x =
        let s = seen g i x in
        none_below (guest_limit * size) g i e s s.among
