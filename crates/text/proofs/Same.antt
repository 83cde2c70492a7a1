-- Texts that are the same, and texts of a known length.
use mathlib.Core.Bool.{true, false≢true}
use native.Mathlib.Omega.{arith}
use lib.ListN.{length, get_or}
use mathlib.Core.Path.{◌≡◌, refl, ap₂}
use mathlib.Core.List.{List, [], ◌∷◌}
use Prim.Native.Nat.{ℕ}
use lib.Dec.{eqb}
use borrow.Author.Tests.{eqb-true}
use Rattle.rules.specs.Text.{same}
use Rattle.rules.proofs.Tests.{and_left, and_right}

pub same_eq : (a b : List ℕ) → same a b ≡ true → a ≡ b
unfolding same
same_eq [] [] e = refl
same_eq [] (y ∷ ys) e = absurd (false≢true e)
same_eq (x ∷ xs) [] e = absurd (false≢true e)
same_eq (x ∷ xs) (y ∷ ys) e = ap₂ ◌∷◌ (eqb-true x y (and_left _ _ e)) (same_eq xs ys (and_right (eqb x y) _ e))

-- a text by its bytes
pub text_three : (t : List ℕ) → length t ≡ 3 → t ≡ get_or t 0 0 ∷ get_or t 1 0 ∷ get_or t 2 0 ∷ []
text_three [] e = absurd (omega arith)
text_three (a ∷ []) e = absurd (omega arith)
text_three (a ∷ b ∷ []) e = absurd (omega arith)
text_three (a ∷ b ∷ c ∷ []) e = refl
text_three (a ∷ b ∷ c ∷ (x ∷ t)) e = absurd (omega arith)

pub text_four : (t : List ℕ) → length t ≡ 4 → t ≡ get_or t 0 0 ∷ get_or t 1 0 ∷ get_or t 2 0 ∷ get_or t 3 0 ∷ []
text_four [] e = absurd (omega arith)
text_four (a ∷ []) e = absurd (omega arith)
text_four (a ∷ b ∷ []) e = absurd (omega arith)
text_four (a ∷ b ∷ c ∷ []) e = absurd (omega arith)
text_four (a ∷ b ∷ c ∷ d ∷ []) e = refl
text_four (a ∷ b ∷ c ∷ d ∷ (x ∷ t)) e = absurd (omega arith)

pub text_five : (t : List ℕ) → length t ≡ 5 → t ≡ get_or t 0 0 ∷ get_or t 1 0 ∷ get_or t 2 0 ∷ get_or t 3 0 ∷ get_or t 4 0 ∷ []
text_five [] e = absurd (omega arith)
text_five (a ∷ []) e = absurd (omega arith)
text_five (a ∷ b ∷ []) e = absurd (omega arith)
text_five (a ∷ b ∷ c ∷ []) e = absurd (omega arith)
text_five (a ∷ b ∷ c ∷ d ∷ []) e = absurd (omega arith)
text_five (a ∷ b ∷ c ∷ d ∷ f ∷ []) e = refl
text_five (a ∷ b ∷ c ∷ d ∷ f ∷ (x ∷ t)) e = absurd (omega arith)
