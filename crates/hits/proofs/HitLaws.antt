-- Where a TSB hit is counted: the words of a row, and the row in the buffer.
use Rattle.std.proofs.Common.{◌≡◌, ℕ, ◌+◌, ◌≤◌, Bool, true, false, not, eqb, sym, refl, ◌∙◌, add-zero, arith, eqb-true}
use mathlib.Core.Bool.{false≢true}
use borrow.Author.Tests.{not-false}
use Rattle.rules.specs.declared.Extents.{Extents}
use Rattle.rules.specs.Real.{valid}
use Rattle.rules.specs.Tsb.{is_page_index}
use Rattle.rules.specs.Hits.{hits_offset}
use Rattle.memory.specs.Ready.{present}
use Rattle.memory.proofs.Places.{valid_part}
use Rattle.records.specs.Sound.{BufferSound}

-- the words of a row lie in it
module _ (extents : Extents) (at : ℕ) (v : valid (present extents) at 16 ≡ true) where
  pub first_valid : valid (present extents) at 8 ≡ true
  first_valid =
      let p : valid (present extents) (at + 0) 8 ≡ true = valid_part (present extents) at 16 0 8 v (omega arith) in
      rw add-zero at p

  pub second_valid : valid (present extents) (at + 8) 8 ≡ true
  second_valid = valid_part (present extents) at 16 8 8 v (omega arith)

-- a page index is 5 at the most
pub index_most : (k : ℕ) (t : Bool) → t ≡ is_page_index k → not t ≡ false → k ≤ 5
unfolding is_page_index
index_most k t p e = go (eqb k 0) refl (eqb k 1) refl (eqb k 3) refl (eqb k 5) refl
  where
    is : is_page_index k ≡ true
    is = sym p ∙ not-false t e

    go : (a : Bool) → eqb k 0 ≡ a → (b : Bool) → eqb k 1 ≡ b → (c : Bool) → eqb k 3 ≡ c → (d : Bool) → eqb k 5 ≡ d → k ≤ 5
    go true x b y c z d w = omega (arith, eqb-true k 0 x)
    go false x true y c z d w = omega (arith, eqb-true k 1 y)
    go false x false y true z d w = omega (arith, eqb-true k 3 z)
    go false x false y false z true w = omega (arith, eqb-true k 5 w)
    go false x false y false z false w = absurd (false≢true (rw (x, y, z, w) at is))

-- the 16 bytes of a row lie in the buffer
pub row_valid : (extents : Extents) (address side context index at : ℕ) → BufferSound (valid (present extents)) address → (address ≡ 0 → ⊥) → side ≤ 1 → context ≤ 1 → index ≤ 5
    → at ≡ address + hits_offset side context index → valid (present extents) at 16 ≡ true
row_valid extents address side context index at b some s c i e = rw e (valid_part _ _ _ _ _ (b some) (omega arith))
