-- Laws of an array that is filled from the front.
use Rattle.std.specs.Array.{IsFromFnResult, IsFromFnResultFrom}
use Rattle.std.proofs.lemmas.List.{same_lists, get_or_default}
use denote.Param.Members.{Mut, Called}
use mathlib.Core.Path.{◌≡◌, refl, sym, ◌∙◌}
use mathlib.Core.Logic.{⊎_elim}
use mathlib.Core.List.{List}
use Prim.Native.Nat.{ℕ, zero, suc, ◌+◌, ◌<◌, ◌≤◌}
use native.Mathlib.Nat.{eq-or-lt_of_le}
use native.Mathlib.Numerals.{add-one}
use native.Mathlib.Omega.{arith}
use lib.ListN.{length, get_or, set, length-set, length-replicate}
use lib.Seq.{get_or-set_same, get_or-set_other}
use Rattle.rules.specs.Image.{filled}

module _ {A : Type 0} (size : ℕ) (blank : A) (f : ℕ → A) where
  pub fill_next : (l : List A) (i : ℕ) (x : A) → l ≡ filled size blank f i → x ≡ f i → set l i x ≡ filled size blank f (i + 1)
  unfolding filled
  fill_next l i x a e = rw (add-one, a, e)

  pub fill_length : (n : ℕ) → length (filled size blank f n) ≡ size
  unfolding filled
  fill_length zero = length-replicate size blank
  fill_length (suc n) = rw length-set (fill_length n)

  pub fill_at : (i n : ℕ) → i < n → n ≤ size → get_or (filled size blank f n) i blank ≡ f i
  unfolding filled
  fill_at i zero h k = absurd (omega arith)
  fill_at i (suc n) h k =
      ⊎_elim
      (λ q. rw q (get_or-set_same (filled size blank f n) n (f n) blank (omega (arith, fill_length n))))
      (λ l. get_or-set_other (filled size blank f n) n i (f n) blank (λ q. omega arith) ∙ fill_at i n l (omega arith))
      (eq-or-lt_of_le {n = i} {m = n} (omega arith))

-- An array of which a closure gave each element, as `array::from_fn` makes it: the closure, which no call changes, gives f i at i.
module _ {F A : Type 0} (g : Mut F (ℕ × Unit {0}) A) (c : F) (f : ℕ → A) (size : ℕ) (blank : A) (gives : (i : ℕ) (y : A) (d : F) → i < size → Called g c (i, tt) y d → (d ≡ c) × (y ≡ f i)) where
  made_at : (l : List A) (a : F) (i n : ℕ) → a ≡ c → i + n ≤ size → IsFromFnResultFrom g a l i n → (k : ℕ) → i ≤ k → k < i + n → get_or l k blank ≡ f k
  made_at l a i zero e u m k v w = absurd (omega arith)
  made_at l a i (suc n) e u m k v w =
      let one = gives i m.1 m.0 (omega arith) (rw e at m.3) in
      ⊎_elim
      (λ q. rw (← q) (m.2.1 blank ∙ one.1))
      (λ h. made_at l m.0 (i + 1) n one.0 (omega arith) m.4 k (omega arith) (omega arith))
      (eq-or-lt_of_le {n = i} {m = k} v)

  pub made : (l : List A) → IsFromFnResult g c l size → l ≡ filled size blank f size
  made l m =
      same_lists l (filled size blank f size) (m.long ∙ sym (fill_length size blank f size)) (λ k d h.
      let near : k < size = omega (arith, m.long) in
      get_or_default l k d blank h ∙ made_at l c 0 size refl (omega arith) m.each k (omega arith) (omega arith)
      ∙ sym (get_or_default (filled size blank f size) k d blank (omega (arith, fill_length size blank f size)) ∙ fill_at size blank f k size near (omega arith)))
