-- What position finds among the first n elements of a list is the first number below n at which its test holds.
use Rattle.std.proofs.Common.{◌≡◌, refl, sym, ap, ◌∙◌, Bool, true, false, ℕ, ◌≤◌, ◌<◌, List, length, get_or, take, cond, nat_lt, Some, None, arith, length-take-le}
use Rattle.std.specs.List.{position, position_or_len}
use Rattle.std.proofs.lemmas.Bool.Decides.{nat_tests}
use Rattle.std.proofs.lemmas.List.{get_or-take}
use Rattle.std.proofs.lemmas.List.Sums.{fails_before_first, passes_at_first}
use Rattle.rules.specs.Scan.{first_below}
use Rattle.rules.proofs.Scan.{first_found, nothing_of}

module _ {A : Type 0} (p : A → Bool) (d : A) (n : ℕ) (l : List A) (h : n ≤ length l) where
  long : length (take n l) ≡ n
  long = length-take-le n l h

  test : (i : ℕ) → i < n → p (get_or (take n l) i d) ≡ p (get_or l i d)
  test i k = ap p (get_or-take n l i d k)

  pub position_first : position p (take n l) ≡ first_below n (λ i. p (get_or l i d))
  position_first = go (nat_lt (position_or_len p (take n l)) (length (take n l))) refl
    where
      go : (b : Bool) → nat_lt (position_or_len p (take n l)) (length (take n l)) ≡ b → cond b (Some (position_or_len p (take n l))) None ≡ first_below n (λ i. p (get_or l i d))
      go true e =
          let k : position_or_len p (take n l) < length (take n l) = grind (arith, nat_tests) in
          first_found _ _ _ true (omega (arith, long)) (nothing_of _ _ (λ i j. sym (test i (omega (arith, long))) ∙ fails_before_first p (take n l) i d j)) (sym (passes_at_first p (take n l) d k) ∙ test _ (omega (arith, long))) refl
      go false e =
          let k : length (take n l) ≤ position_or_len p (take n l) = grind (arith, nat_tests) in
          sym (nothing_of _ _ (λ i j. sym (test i j) ∙ fails_before_first p (take n l) i d (omega (arith, long))))
