-- Laws of a search among the pairs of n places.
use Rattle.std.proofs.Common.{Option, Some, None}
use mathlib.Core.Bool.{Bool, true, false}
use mathlib.Core.Path.{◌≡◌, refl}
use mathlib.Core.List.{List}
use Prim.Native.Nat.{ℕ, ◌+◌, ◌<◌, ◌≤◌}
use native.Mathlib.Nat.{le_refl, lt_trans}
use lib.ListN.{get_or}
use Rattle.rules.specs.Scan.{some_below, first_below}
use Rattle.rules.specs.Image.{filled}
use Rattle.rules.proofs.Scan.{some_same, some_end, some_found, first_same, first_next, first_end, first_found}
use Rattle.partition.proofs.Filled.{fill_at}

module _ (p : ℕ → ℕ → Bool) where
  -- of the first i places, one that clashes with place j
  abbrev pub clashes : ℕ → ℕ → Bool
  clashes j i = some_below i (λ m. p m j)

  -- of the first n places, the first that clashes with one before it
  abbrev pub clash : ℕ → Option ℕ
  clash n = first_below n (λ j. clashes j j)

  pub clash_next : (j i : ℕ) → clash j ≡ None → clashes j i ≡ false → i ≤ j → j ≤ i → clash (j + 1) ≡ None
  clash_next j i a b u v = first_next _ j false a (some_end _ i j b u v) refl

  pub clash_none : (j n : ℕ) → clash j ≡ None → j ≤ n → n ≤ j → None ≡ clash n
  clash_none j n a u v = first_end _ j n a u v

  pub clash_found : (j i n : ℕ) (t : Bool) → clash j ≡ None → i < j → j < n → t ≡ p i j → t ≡ true → Some j ≡ clash n
  clash_found j i n t a u v b d = first_found _ j n true v a (some_found _ i j t u b d) refl

-- places that hold f 0, f 1, ..
pub clash_filled : {A : Type 0} (blank : A) (p : A → A → Bool) (f : ℕ → A) (n : ℕ) (l : List A) → l ≡ filled n blank f n
    → clash (λ i j. p (get_or l i blank) (get_or l j blank)) n ≡ clash (λ i j. p (f i) (f j)) n
clash_filled blank p f n l e =
    rw e
    (first_same _ _ n (λ j u. some_same _ _ j (λ i v.
    rw (fill_at n blank f i n (lt_trans v u) (le_refl n), fill_at n blank f j n u (le_refl n)))))
