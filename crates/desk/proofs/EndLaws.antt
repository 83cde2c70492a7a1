-- Laws of lines, as the loops go through the input: i is the index of the loop over a line's bytes.
use Rattle.std.specs.Prelude.{if◌then◌else◌, Option, Some, None, nat_lt, unwrap_or}
use Rattle.std.specs.List.{position, position_or_len}
use Rattle.std.proofs.lemmas.List.{take_rest}
use Rattle.std.proofs.lemmas.List.Recursion.{is_position_or_len}
use mathlib.Core.Bool.{Bool, true, false, cond}
use mathlib.Core.Path.{◌≡◌, refl, sym, ap, ◌∙◌}
use mathlib.Core.List.{List, [], ◌∷◌, ◌++◌, append_assoc, append-nil}
use Prim.Native.Nat.{ℕ, suc, ◌+◌, ◌-◌, ◌<◌, ◌≤◌}
use native.Mathlib.Numerals.{add-one}
use native.Mathlib.Omega.{arith}
use lib.Dec.{eqb}
use lib.ListN.{length, take, drop, length-append, length-drop, drop_of_length-le}
use lib.Seq.{drop-drop}
use borrow.Author.Tests.{ltb-false}
use Rattle.rules.specs.declared.Desk.{Desk}
use Rattle.rules.specs.Text.{line_feed}
use Rattle.rules.specs.Session.{lines_from}
use Rattle.rules.specs.Plan.{stepped, steps, fresh, desk_after}
use Rattle.desk.specs.Ends.{line_length}

pub length_within : (bs : List ℕ) → line_length bs ≤ length bs
unfolding line_length
length_within [] = omega arith
length_within (b ∷ bs) = go (eqb b line_feed) (length_within bs)
  where
    go : (t : Bool) → line_length bs ≤ length bs → (if t then 0 else suc (line_length bs)) ≤ suc (length bs)
    go true w = omega arith
    go false w = omega arith

-- the first line ends at the first line feed, or at the end
line_is : (bs : List ℕ) → line_length bs ≡ position_or_len (λ (b : ℕ). eqb b line_feed) bs
unfolding line_length
line_is = is_position_or_len line_length (λ (b : ℕ). eqb b line_feed) refl step
  where
    step : (b : ℕ) (bs : List ℕ) → line_length (b ∷ bs) ≡ cond (eqb b line_feed) 0 (1 + line_length bs)
    step b bs = go (eqb b line_feed)
      where
        go : (t : Bool) → (if t then 0 else suc (line_length bs)) ≡ cond t 0 (1 + line_length bs)
        go true = refl
        go false = omega arith

first_found : (bs : List ℕ) (r : Option ℕ) → r ≡ position (λ (b : ℕ). eqb b line_feed) bs → unwrap_or r (length bs) ≡ line_length bs
first_found bs r e = rw e (go (nat_lt (position_or_len (λ (b : ℕ). eqb b line_feed) bs) (length bs)) refl)
  where
    go : (t : Bool) → nat_lt (position_or_len (λ (b : ℕ). eqb b line_feed) bs) (length bs) ≡ t
        → unwrap_or (cond t (Some (position_or_len (λ (b : ℕ). eqb b line_feed) bs)) None) (length bs) ≡ line_length bs
    go true q = sym (line_is bs)
    go false q = omega (arith, line_is bs, length_within bs, ltb-false (position_or_len (λ (b : ℕ). eqb b line_feed) bs) (length bs) q)

-- the line that starts at the place from
pub end_found : (s : List ℕ) (from : ℕ) (r : Option ℕ) (n : ℕ) → r ≡ position (λ (b : ℕ). eqb b line_feed) (take (length s - from) (drop from s))
    → n ≡ unwrap_or r (length (take (length s - from) (drop from s))) → from + n ≡ from + line_length (drop from s)
end_found s from r n e f = ap (λ (k : ℕ). from + k) ((rw take_rest at f) ∙ first_found (drop from s) r (rw take_rest at e))

pub end_within : (s : List ℕ) (from r : ℕ) → from ≤ length s → r ≡ from + line_length (drop from s) → r ≤ length s
end_within s from r h e = omega (arith, rw length-drop at (length_within (drop from s)))

lines_cons : (line : List ℕ) (b : ℕ) (bs : List ℕ) → lines_from line (b ∷ bs) ≡ (if eqb b line_feed then line ∷ lines_from [] bs else lines_from (line ++ (b ∷ [])) bs)
unfolding lines_from
lines_cons [] b bs = refl
lines_cons (c ∷ cs) b bs = refl

-- the first line, and those behind it
pub split_first : (line bs : List ℕ) → 0 < length line + length bs
    → lines_from line bs ≡ (line ++ take (line_length bs) bs) ∷ lines_from [] (drop (suc (line_length bs)) bs)
unfolding lines_from line_length
split_first [] [] h = absurd (omega arith)
split_first (c ∷ cs) [] h = rw append-nil
split_first line (b ∷ bs) h = go (eqb b line_feed) refl (split_first (line ++ (b ∷ [])) bs (rw length-append (omega arith)))
  where
    go : (t : Bool) → eqb b line_feed ≡ t
        → lines_from (line ++ (b ∷ [])) bs ≡ ((line ++ (b ∷ [])) ++ take (line_length bs) bs) ∷ lines_from [] (drop (suc (line_length bs)) bs)
        → lines_from line (b ∷ bs)
        ≡ (line ++ take (if t then 0 else suc (line_length bs)) (b ∷ bs)) ∷ lines_from [] (drop (suc (if t then 0 else suc (line_length bs))) (b ∷ bs))
    go true e w = rw (lines_cons line b bs, e, append-nil)
    go false e w = rw (lines_cons line b bs, e, w, append_assoc)

module _ (s : List ℕ) (from end : ℕ) (h : from < length s) (e : end ≡ from + line_length (drop from s)) where
  lines_split : lines_from [] (drop from s) ≡ take (end - from) (drop from s) ∷ lines_from [] (drop (end + 1) s)
  lines_split =
      let k : end - from ≡ line_length (drop from s) = omega arith in
      let j : end + 1 ≡ from + suc (line_length (drop from s)) = omega arith in
      rw (k, j, ← drop-drop) (split_first [] (drop from s) (rw length-drop (omega arith)))

  module _ (n : ℕ) (desk r all : Desk) (q : steps (n + 1) desk (lines_from [] (drop from s)) ≡ all) (f : r ≡ stepped (n + 1) desk (take (end - from) (drop from s))) where
    pub lines_next : steps (n + 1 + 1) r (lines_from [] (drop (end + 1) s)) ≡ all
    unfolding steps
    lines_next = rw (f, add-one) (rw lines_split at q)

    pub lines_last : length s ≤ end → steps (n + 1 + 1) r (lines_from [] (drop end s)) ≡ all
    lines_last l =
        let z : drop end s ≡ drop (end + 1) s = drop_of_length-le s l ∙ sym (drop_of_length-le s {i = end + 1} (omega arith)) in
        rw z lines_next

pub lines_over : (s : List ℕ) (from n : ℕ) (desk all : Desk) → steps (n + 1) desk (lines_from [] (drop from s)) ≡ all → length s ≤ from → desk ≡ all
unfolding steps lines_from
lines_over s from n desk all q l = rw (drop_of_length-le s l) at q

pub lines_start : (s : List ℕ) (desk : Desk) → desk ≡ fresh → steps (0 + 1) desk (lines_from [] (drop 0 s)) ≡ desk_after s
unfolding desk_after
lines_start s desk e = rw e
