-- A list of the tables with one place replaced.
use Rattle.std.specs.Prelude.{if◌then◌else◌}
use mathlib.Core.Path.{◌≡◌, refl, ap}
use mathlib.Core.Bool.{Bool, true}
use mathlib.Core.List.{List, [], ◌∷◌}
use Prim.Native.Nat.{ℕ, zero, suc, ◌≤◌, ◌<◌}
use native.Mathlib.Omega.{arith}
use lib.Dec.{leb, ltb}
use lib.ListN.{length, get_or, set}
use borrow.Author.Tests.{le-ltb}
use Rattle.rules.specs.Tables.{list_right}
use Rattle.rules.proofs.Scan.{all_at}
use Rattle.rules.proofs.Tests.{and_right}
use Rattle.records.proofs.SoundLaws.{list_length, list_there}
use Rattle.kept.proofs.Accepted.{list_right_lem}

-- what holds of the new element, and held at the place, holds at the place
pub set_either : {A : Type 0} (P : A → Type 0) (l : List A) (i j : ℕ) (x d : A) → (j ≡ i → P x) → P (get_or l j d) → P (get_or (set l i x) j d)
set_either P [] i j x d f h = h
set_either P (y ∷ ys) zero zero x d f h = f refl
set_either P (y ∷ ys) zero (suc j) x d f h = h
set_either P (y ∷ ys) (suc i) zero x d f h = h
set_either P (y ∷ ys) (suc i) (suc j) x d f h = set_either P ys i j x d (λ q. f (ap suc q)) h

-- a place that holds something else than what stands past the end is one of the list
pub placed : {A : Type 0} (l : List A) (i : ℕ) (d : A) → (get_or l i d ≡ d → ⊥) → i < length l
placed [] i d f = absurd (f refl)
placed (x ∷ xs) zero d f = omega arith
placed (x ∷ xs) (suc i) d f = let r : i < length xs = placed xs i d f in omega arith

-- a place behind those that are there, in a list that is right
pub list_past : (limit count : ℕ) (right blank : ℕ → Bool) → list_right limit count right blank ≡ true → (i : ℕ) → count ≤ i → i < limit → blank i ≡ true
unfolding list_right
list_past limit count right blank e i h l = rw (le-ltb i count h) at (all_at (λ i. if ltb i count then right i else blank i) limit i (and_right (leb count limit) _ e) l)

-- such a list with a place that is there replaced by an element that is right
pub list_replaced : {A : Type 0} (limit count : ℕ) (right blank : A → Bool) (l : List A) (c : ℕ) (x d : A)
    → list_right limit count (λ i. right (get_or l i d)) (λ i. blank (get_or l i d)) ≡ true → c < count → right x ≡ true
    → list_right limit count (λ i. right (get_or (set l c x) i d)) (λ i. blank (get_or (set l c x) i d)) ≡ true
list_replaced limit count right blank l c x d e h r =
    list_right_lem limit count (λ i. right (get_or (set l c x) i d)) (λ i. blank (get_or (set l c x) i d)) (list_length limit count _ _ e)
    (λ i k. set_either (λ a. right a ≡ true) l c i x d (λ q. r) (list_there limit count (λ i. right (get_or l i d)) (λ i. blank (get_or l i d)) e i k))
    (λ i k m. set_either (λ a. blank a ≡ true) l c i x d (λ q. absurd (omega arith)) (list_past limit count (λ i. right (get_or l i d)) (λ i. blank (get_or l i d)) e i k m))
