-- Laws of pieces and of texts, as the loops go through them: i is the loop's index.
use Rattle.std.specs.Prelude.{if◌then◌else◌}
use Rattle.std.specs.Cmp.Lexicographic.{pointwise}
use mathlib.Core.Bool.{Bool, true, false}
use mathlib.Core.Path.{◌≡◌, refl}
use mathlib.Core.List.{List, [], ◌∷◌, ◌++◌, append_assoc, append-nil}
use Prim.Native.Nat.{ℕ, suc, ◌+◌, ◌<◌, ◌≤◌}
use native.Mathlib.Numerals.{add-one}
use native.Mathlib.Omega.{arith}
use lib.Dec.{eqb}
use lib.ListN.{length, get_or, take, drop, length-drop, drop_of_length-le}
use lib.Seq.{drop-cons}
use borrow.Author.Tests.{eq-eqb, ne_eqb}
use Rattle.rules.specs.Text.{space, same, pieces, joined}
use Rattle.text.specs.Pieces.{first_length, behind, unspaced}

first_within : (bs : List ℕ) → first_length bs ≤ length bs
unfolding first_length
first_within [] = omega arith
first_within (b ∷ bs) = go (eqb b space) (first_within bs)
  where
    go : (t : Bool) → first_length bs ≤ length bs → (if t then 0 else suc (first_length bs)) ≤ suc (length bs)
    go true w = omega arith
    go false w = omega arith

-- the piece that starts at the place at
module _ (s : List ℕ) (at i : ℕ) (e : i + first_length (drop i s) ≡ at + first_length (drop at s)) where
  pub end_found : i < length s → get_or s i 0 ≡ space → i ≡ at + first_length (drop at s)
  unfolding first_length
  end_found h q =
      let z : first_length (drop i s) ≡ 0 = rw (drop-cons s i 0 h, eq-eqb _ _ q) in
      omega arith

  pub end_next : i < length s → (get_or s i 0 ≡ space → ⊥) → i + 1 + first_length (drop (i + 1) s) ≡ at + first_length (drop at s)
  unfolding first_length
  end_next h n =
      let z : first_length (drop i s) ≡ suc (first_length (drop (i + 1) s)) = rw (drop-cons s i 0 h, ne_eqb _ _ n, add-one) in
      omega arith

  pub end_last : length s ≤ i → i ≡ at + first_length (drop at s)
  unfolding first_length
  end_last l =
      let z : first_length (drop i s) ≡ 0 = rw (drop_of_length-le s l) in
      omega arith

pub end_within : (s : List ℕ) (at r : ℕ) → at ≤ length s → r ≡ at + first_length (drop at s) → r ≤ length s
end_within s at r h e = omega (arith, rw length-drop at (first_within (drop at s)))

-- the first piece, and those behind it
split_behind : (piece bs : List ℕ) → pieces piece bs ≡ (piece ++ take (first_length bs) bs) ∷ behind (drop (first_length bs) bs)
unfolding pieces first_length behind
split_behind piece [] = rw append-nil
split_behind piece (b ∷ bs) = go (eqb b space) (split_behind (piece ++ (b ∷ [])) bs)
  where
    go : (t : Bool) → pieces (piece ++ (b ∷ [])) bs ≡ ((piece ++ (b ∷ [])) ++ take (first_length bs) bs) ∷ behind (drop (first_length bs) bs)
        → (if t then piece ∷ pieces [] bs else pieces (piece ++ (b ∷ [])) bs)
        ≡ (piece ++ take (if t then 0 else suc (first_length bs)) (b ∷ bs)) ∷ behind (drop (if t then 0 else suc (first_length bs)) (b ∷ bs))
    go true w = rw append-nil
    go false w = rw (w, append_assoc)

pub pieces_split : (bs : List ℕ) → pieces [] bs ≡ take (first_length bs) bs ∷ behind (drop (first_length bs) bs)
pieces_split bs = split_behind [] bs

-- the pieces in one are the bytes but for the spaces
joined_pieces : (piece bs : List ℕ) → joined (pieces piece bs) ≡ piece ++ unspaced bs
unfolding joined pieces unspaced
joined_pieces piece [] = refl
joined_pieces piece (b ∷ bs) = go (eqb b space) (joined_pieces [] bs) (joined_pieces (piece ++ (b ∷ [])) bs)
  where
    go : (t : Bool) → joined (pieces [] bs) ≡ unspaced bs → joined (pieces (piece ++ (b ∷ [])) bs) ≡ (piece ++ (b ∷ [])) ++ unspaced bs
        → joined (if t then piece ∷ pieces [] bs else pieces (piece ++ (b ∷ [])) bs) ≡ piece ++ (if t then unspaced bs else b ∷ unspaced bs)
    go true u w = rw u
    go false u w = rw (w, append_assoc)

pub joined_behind : (bs : List ℕ) → joined (behind (drop (first_length bs) bs)) ≡ unspaced (drop (first_length bs) bs)
unfolding joined behind unspaced first_length
joined_behind [] = refl
joined_behind (b ∷ bs) = go (eqb b space) refl (joined_behind bs)
  where
    go : (t : Bool) → eqb b space ≡ t → joined (behind (drop (first_length bs) bs)) ≡ unspaced (drop (first_length bs) bs)
        → joined (behind (drop (if t then 0 else suc (first_length bs)) (b ∷ bs))) ≡ unspaced (drop (if t then 0 else suc (first_length bs)) (b ∷ bs))
    go true e w = rw (e, joined_pieces [] bs)
    go false e w = w

-- two texts, byte by byte
pub same_is : (a b : List ℕ) → pointwise eqb a b ≡ same a b
unfolding same
same_is [] [] = refl
same_is [] (y ∷ b) = refl
same_is (x ∷ a) [] = refl
same_is (x ∷ a) (y ∷ b) = rw (same_is a b)
