-- The library's searches over the numbers below n answer what the rules' scans do.
use Rattle.std.proofs.Common.{Option, Some, None, MatchOption}
use Rattle.std.specs.List.{list_all, range_with_len}
use mathlib.Core.Bool.{Bool, true, false, ◌&&◌, and-true, and_assoc}
use mathlib.Core.Path.{◌≡◌, refl, sym, ap, ◌∙◌}
use Prim.Native.Nat.{ℕ, zero, suc, ◌+◌, ◌<◌, ◌≤◌}
use native.Mathlib.Omega.{arith}
use Rattle.rules.specs.Scan.{all_below, first_below}
use Rattle.rules.proofs.Scan.{all_same, nothing_of, first_found}

-- the first of the numbers apart from the others
all_first : (p : ℕ → Bool) (n : ℕ) → all_below (suc n) p ≡ (p 0 && all_below n (λ k. p (suc k)))
unfolding all_below
all_first p zero = sym (and-true _)
all_first p (suc n) = rw (all_first p n, and_assoc)

all_from : (p : ℕ → Bool) (a n : ℕ) → list_all p (range_with_len a n) ≡ all_below n (λ k. p (a + k))
unfolding all_below
all_from p a zero = refl
all_from p a (suc n) =
    let shift : all_below n (λ k. p (a + 1 + k)) ≡ all_below n (λ k. p (a + suc k)) = all_same _ _ n (λ k h. ap p (omega arith)) in
    let here : a + 0 ≡ a = omega arith in
    ap (λ (t : Bool). p a && t) (all_from p (a + 1) n ∙ shift) ∙ ap (λ (i : ℕ). p i && all_below n (λ k. p (a + suc k))) (sym here) ∙ sym (all_first (λ k. p (a + k)) n)

pub all_range : (p : ℕ → Bool) (n : ℕ) (r : Bool) → r ≡ list_all p (range_with_len 0 n) → r ≡ all_below n p
all_range p n r e = e ∙ all_from p 0 n ∙ all_same _ _ n (λ k h. ap p (omega arith))

pub find_range : (p : ℕ → Bool) (n : ℕ) (r : Option ℕ)
    → MatchOption r ((k : ℕ) → 0 ≤ k → k < n → p k ≡ false) (λ i. (0 ≤ i) × (i < n) × (p i ≡ true) × ((k : ℕ) → 0 ≤ k → k < i → p k ≡ false)) → r ≡ first_below n p
find_range p n None h = sym (nothing_of p n (λ k l. h k (omega arith) l))
find_range p n (Some i) h = first_found p i n true h.1 (nothing_of p i (λ k l. h.3 k (omega arith) l)) (sym h.2) refl
