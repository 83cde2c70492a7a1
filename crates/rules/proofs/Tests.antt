-- Laws of tests.
use mathlib.Core.Path.{◌≡◌, refl, sym}
use mathlib.Core.Bool.{Bool, true, false, ◌&&◌, false≢true}
use mathlib.Core.Logic.{◌⊎◌, inl, inr}
use Prim.Native.Nat.{ℕ, ◌<◌, ◌≤◌}
use lib.Dec.{leb, ltb, eqb}
use borrow.Author.Tests.{le-leb, leb-true, ltb-true, ltb-false, eq-eqb, eqb-true}

-- the parts of a conjunction that holds
pub and_left : (s t : Bool) → (s && t) ≡ true → s ≡ true
and_left true t p = refl
and_left false t p = p

pub and_right : (s t : Bool) → (s && t) ≡ true → t ≡ true
and_right true t p = p
and_right false t p = absurd (false≢true p)

-- two tests that say the same are the same
pub bool_same : (s t : Bool) → (s ≡ true → t ≡ true) → (t ≡ true → s ≡ true) → s ≡ t
bool_same true true f g = refl
bool_same true false f g = sym (f refl)
bool_same false true f g = g refl
bool_same false false f g = refl

pub leb_same : (a b c d : ℕ) → (a ≤ b → c ≤ d) → (c ≤ d → a ≤ b) → leb a b ≡ leb c d
leb_same a b c d f g = bool_same (leb a b) (leb c d) (λ p. le-leb c d (f (leb-true a b p))) (λ q. le-leb a b (g (leb-true c d q)))

pub eqb_same : (a b c d : ℕ) → (a ≡ b → c ≡ d) → (c ≡ d → a ≡ b) → eqb a b ≡ eqb c d
eqb_same a b c d f g = bool_same (eqb a b) (eqb c d) (λ p. eq-eqb c d (f (eqb-true a b p))) (λ q. eq-eqb a b (g (eqb-true c d q)))

-- a number is below another or not
pub lt_or_ge : (m n : ℕ) → (m < n) ⊎ (n ≤ m)
lt_or_ge m n = go (ltb m n) refl
  where
    go : (t : Bool) → ltb m n ≡ t → (m < n) ⊎ (n ≤ m)
    go true e = inl (ltb-true m n e)
    go false e = inr (ltb-false m n e)
