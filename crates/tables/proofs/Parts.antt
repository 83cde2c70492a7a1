-- Laws of a list of which the first places are right and the others blank.
use Rattle.std.proofs.Common.{take, drop, if◌then◌else◌}
use Rattle.std.specs.List.{list_all}
use mathlib.Core.Path.{◌≡◌, refl, sym, ap, ◌∙◌}
use mathlib.Core.Bool.{Bool, false, ◌&&◌, and_assoc}
use mathlib.Core.List.{List, [], ◌∷◌}
use Prim.Native.Nat.{ℕ, zero, suc, ◌+◌, ◌≤◌, ◌<◌}
use native.Mathlib.Omega.{arith}
use lib.Dec.{ltb, leb-suc-suc}
use lib.ListN.{length, get_or}
use borrow.Author.Tests.{le-leb, lt-leb, le-ltb, lt-ltb}
use native.Mathlib.Nat.{le_refl}
use Rattle.rules.specs.Image.{filled}
use Rattle.partition.proofs.Filled.{fill_at}
use Rattle.rules.specs.Scan.{all_below}
use Rattle.rules.specs.Tables.{list_right}
use Rattle.rules.proofs.Scan.{all_same}

-- a test of each number, the first of them first
all_first : (f : ℕ → Bool) (n : ℕ) → all_below (suc n) f ≡ (f 0 && all_below n (λ i. f (suc i)))
unfolding all_below
all_first f zero = grind arith
all_first f (suc n) = rw (all_first f n) (and_assoc (f 0) (all_below n (λ i. f (suc i))) (f (suc n)))

module _ {A : Type 0} (d : A) where
  -- a test of each element
  pub all_items : (p : A → Bool) (l : List A) → list_all p l ≡ all_below (length l) (λ i. p (get_or l i d))
  unfolding all_below
  all_items p [] = refl
  all_items p (x ∷ l) = rw (all_items p l) (sym (all_first (λ i. p (get_or (x ∷ l) i d)) (length l)))

  -- of the first n elements by one test, and of the others by another
  parts : (p q : A → Bool) (n : ℕ) (l : List A) → n ≤ length l → (list_all p (take n l) && list_all q (drop n l)) ≡ all_below (length l) (λ i. if ltb i n then p (get_or l i d) else q (get_or l i d))
  parts p q zero l h = all_items q l ∙ all_same _ _ (length l) (λ i w. rw (le-ltb i 0 (omega arith)))
  parts p q (suc n) [] h = absurd (omega arith)
  parts p q (suc n) (x ∷ l) h =
      and_assoc (p x) (list_all p (take n l)) (list_all q (drop n l))
      ∙ rw (parts p q n l (omega arith), all_first (λ i. if ltb i (suc n) then p (get_or (x ∷ l) i d) else q (get_or (x ∷ l) i d)) (length l), lt-ltb 0 (suc n) (omega arith))
      (ap (λ t. p x && t) (all_same _ _ (length l) (λ i w. rw (leb-suc-suc (suc i) n))))

  -- so a list is right if its first elements, there, pass the one test, and the others, behind, the other
  pub parts_right : (p q : A → Bool) (n count : ℕ) (l there behind : List A) (r s : Bool)
      → n ≡ count → (n ≤ length l) × (there ≡ take n l) × (behind ≡ drop n l) × (length there ≡ n) × (length behind + n ≡ length l)
      → r ≡ list_all p there → s ≡ list_all q behind → (r && s) ≡ list_right (length l) count (λ i. p (get_or l i d)) (λ i. q (get_or l i d))
  unfolding list_right
  parts_right p q n count l there behind r s e f a b =
      rw (a, b, f.1, f.2, ← e, le-leb n (length l) f.0) (parts p q n l f.0)

pub too_many : (limit count : ℕ) (p q : ℕ → Bool) → limit < count → false ≡ list_right limit count p q
unfolding list_right
too_many limit count p q h = rw (lt-leb count limit h)

-- every element of a list that is filled by f
pub every_filled : {A : Type 0} (q : A → Bool) (blank : A) (f : ℕ → A) (n : ℕ) (l : List A) → l ≡ filled n blank f n → all_below n (λ i. q (get_or l i blank)) ≡ all_below n (λ i. q (f i))
every_filled q blank f n l e = rw e (all_same _ _ n (λ i u. rw (fill_at n blank f i n u (le_refl n))))
