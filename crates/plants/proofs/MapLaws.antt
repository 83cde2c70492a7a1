-- A loop that makes a list anew in place: after i turns its first i elements are made.
use mathlib.Core.Path.{◌≡◌, refl, sym, ap}
use mathlib.Core.List.{List, [], ◌∷◌, map}
use Prim.Native.Nat.{ℕ, zero, suc, ◌+◌, ◌<◌}
use native.Mathlib.Omega.{arith}
use native.Mathlib.Numerals.{add-one}
use denote.Param.Members.{Mut, Called}
use Rattle.std.specs.Array.{IsMapOf}
use Rattle.std.proofs.lemmas.List.{ext_get_or, get_or-map, length-map}
use lib.ListN.{length, get_or, set}
use Rattle.plants.specs.Changes.{map_first}

module _ {A : Type 0} where
  step : (f : ℕ → A → A) (d : A) (i : ℕ) (l : List A) → set (map_first f i l) i (f i (get_or (map_first f i l) i d)) ≡ map_first f (suc i) l
  unfolding map_first
  step f d zero [] = refl
  step f d (suc i) [] = refl
  step f d zero (x ∷ l) = refl
  step f d (suc i) (x ∷ l) = ap (λ (t : List A). f 0 x ∷ t) (step (λ j. f (suc j)) d i l)

  -- l is the list before the loop, and s the one after i turns
  pub map_next : (f : ℕ → A → A) (l s : List A) (i : ℕ) (d : A) → s ≡ map_first f i l → set s i (f i (get_or s i d)) ≡ map_first f (i + 1) l
  map_next f l s i d e = rw (e, add-one) (step f d i l)

  -- an element that is made anew stands where it stood
  pub map_read : (f : ℕ → A → A) (d : A) (n c : ℕ) (l : List A) → ((i : ℕ) → f i d ≡ d) → c < n → get_or (map_first f n l) c d ≡ f c (get_or l c d)
  unfolding map_first
  map_read f d zero c l z h = absurd (omega arith)
  map_read f d (suc n) c [] z h = sym (z c)
  map_read f d (suc n) zero (x ∷ l) z h = refl
  map_read f d (suc n) (suc c) (x ∷ l) z h = map_read (λ i. f (suc i)) d n c l (λ i. z (suc i)) (omega arith)

  map_like : (f g : ℕ → A → A) (n : ℕ) (l : List A) → ((i : ℕ) (x : A) → g i x ≡ f i x) → map_first g n l ≡ map_first f n l
  unfolding map_first
  map_like f g zero l s = refl
  map_like f g (suc n) [] s = refl
  map_like f g (suc n) (x ∷ l) s = rw (s 0 x, map_like (λ i. f (suc i)) (λ i. g (suc i)) n l (λ i. s (suc i)))

  -- one element made otherwise is a store
  pub map_store : (f g : ℕ → A → A) (d : A) (n c : ℕ) (l : List A) → ((i : ℕ) (x : A) → (i ≡ c → ⊥) → g i x ≡ f i x) → c < n → map_first g n l ≡ set (map_first f n l) c (g c (get_or l c d))
  unfolding map_first
  map_store f g d zero c l s h = absurd (omega arith)
  map_store f g d (suc n) c [] s h = refl
  map_store f g d (suc n) zero (x ∷ l) s h = ap (λ (t : List A). g 0 x ∷ t) (map_like (λ i. f (suc i)) (λ i. g (suc i)) n l (λ i y. s (suc i) y (λ e. omega (arith, e))))
  map_store f g d (suc n) (suc c) (x ∷ l) s h = rw (s 0 x (λ e. omega (arith, e)), map_store (λ i. f (suc i)) (λ i. g (suc i)) d n c l (λ i y k. s (suc i) y (λ e. k (omega (arith, e)))) (omega arith))

  -- nothing is changed if each is made as it was
  pub map_same : (f : ℕ → A → A) (d : A) (n : ℕ) (l : List A) → ((i : ℕ) → i < n → f i (get_or l i d) ≡ get_or l i d) → map_first f n l ≡ l
  unfolding map_first
  map_same f d zero l s = refl
  map_same f d (suc n) [] s = refl
  map_same f d (suc n) (x ∷ l) s = rw (s 0 (omega arith), map_same (λ i. f (suc i)) d n l (λ i h. s (suc i) (omega (arith, h))))

-- what an array's map gives, where each call of the closure gives h of its element
pub mapped : {A B F : Type 0} (g : Mut F (A × Unit {0}) B) (h : A → B) (a : A) (b : B) (f : F) (xs : List A) (ys : List B) (n : ℕ) → IsMapOf g f xs ys n → length xs ≡ n
    → ((p : F) (x : A) (y : B) (q : F) → Called g p (x, tt) y q → y ≡ h x) → ys ≡ map h xs
mapped g h a b f xs ys n m e k =
    ext_get_or b ys (map h xs) (simp length-map (omega (arith, m.long)))
    (λ i l. let z = m.at i a b (omega (arith, m.long)) in rw (get_or-map h xs i a b (omega (arith, m.long))) (k _ _ _ _ z.2))
