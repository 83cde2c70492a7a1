-- Laws of the fields behind a word, as the loop reads one after another.
use Rattle.std.proofs.Common.{Option, Some, None}
use mathlib.Core.Path.{◌≡◌, refl, sym, ◌∙◌}
use mathlib.Core.List.{List, [], ◌∷◌, ◌++◌, append_assoc, append-nil}
use Prim.Native.Nat.{ℕ, suc, ◌+◌, ◌-◌, ◌<◌, ◌≤◌}
use native.Mathlib.Numerals.{add-one}
use native.Mathlib.Omega.{arith}
use lib.ListN.{length, get_or, take, drop, set, replicate, length-append, drop_of_length-le}
use lib.Seq.{drop-cons, drop-drop, set_at}
use borrow.Author.Tests.{le-leb, lt-leb}
use Rattle.rules.specs.Text.{consed, field, fields}
use Rattle.text.specs.Pieces.{first_length, behind}
use Rattle.text.specs.Gathered.{fields_or}
use Rattle.text.proofs.PieceLaws.{pieces_split}

abbrev gathered : List ℕ → Option (List ℕ) → Option (List ℕ)
gathered ns None = None
gathered ns (Some ms) = Some (ns ++ ms)

abbrev zeros : List ℕ
zeros = replicate 9 0

-- the state of `read_fields` at the place `at`: the fields ns are read, and stand in the list
pub record Gathering (s : List ℕ) (end : ℕ) (list : List ℕ) (count at : ℕ) : Type 0 where
  pub ns : List ℕ
  pub size : count ≡ length ns
  pub stored : list ≡ ns ++ drop count zeros
  pub whole : gathered ns (fields (behind (drop at s))) ≡ fields (behind (drop end s))

pub gather_start : (s : List ℕ) (end : ℕ) → Gathering s end zeros 0 end
gather_start s end = record { ns = []; size = refl; stored = refl; whole = go (fields (behind (drop end s))) }
  where
    go : (o : Option (List ℕ)) → gathered [] o ≡ o
    go None = refl
    go (Some ms) = refl

-- one field more
module _ (s : List ℕ) (at : ℕ) where
  text : List ℕ
  text = take (first_length (drop (at + 1) s)) (drop (at + 1) s)

  next_field : at < length s → fields (behind (drop at s)) ≡ consed (field text) (fields (behind (drop (at + 1 + first_length (drop (at + 1) s)) s)))
  unfolding behind fields text
  next_field h =
      rw (drop-cons s at 0 h, ← add-one at, pieces_split (drop (at + 1) s), drop-drop (first_length (drop (at + 1) s)) (at + 1) s)

module _ (s : List ℕ) (end : ℕ) (list : List ℕ) (count at : ℕ) (g : Gathering s end list count at) where
  none_right : fields (behind (drop end s)) ≡ None → None ≡ fields_or (fields (behind (drop end s)))
  unfolding fields_or
  none_right e = rw e

  module _ (h : at < length s) where
    pub gather_full : count ≡ 9 → None ≡ fields_or (fields (behind (drop end s)))
    unfolding fields_or
    gather_full c = rw (← g.whole, next_field s at h) (go (field (text s at)) (fields (behind (drop (at + 1 + first_length (drop (at + 1) s)) s))))
      where
        go : (o : Option ℕ) (p : Option (List ℕ)) → None ≡ fields_or (gathered g.ns (consed o p))
        go None p = refl
        go (Some n) None = refl
        go (Some n) (Some ms) =
            let l : 9 < length (g.ns ++ (n ∷ ms)) = rw length-append (omega (arith, g.size)) in
            rw (lt-leb _ _ l)

    -- next is the field's end
    module _ (next : ℕ) (e : next ≡ at + 1 + first_length (drop (at + 1) s)) (o : Option ℕ) (b : o ≡ field (take (next - (at + 1)) (drop (at + 1) s))) where
      field_told : o ≡ field (text s at)
      unfolding text
      field_told =
          let k : next - (at + 1) ≡ first_length (drop (at + 1) s) = omega arith in
          rw k at b

      pub gather_bad : o ≡ None → None ≡ fields_or (fields (behind (drop end s)))
      gather_bad q = none_right (sym g.whole ∙ rw (next_field s at h, sym field_told ∙ q))

      pub gather_next : (v : ℕ) → o ≡ Some v → count < 9 → Gathering s end (set list count v) (count + 1) next
      gather_next v q c = record {
        ns = g.ns ++ (v ∷ []);
        size = rw length-append (omega (arith, g.size));
        stored = rw (g.stored, drop-cons zeros count 0 c, set_at g.ns (get_or zeros count 0) (drop (suc count) zeros) v count (sym g.size), append_assoc, add-one);
        whole = sym (sym g.whole ∙ rw (next_field s at h, sym field_told ∙ q, e) (go (fields (behind (drop (at + 1 + first_length (drop (at + 1) s)) s)))));
      }
        where
          go : (p : Option (List ℕ)) → gathered g.ns (consed (Some v) p) ≡ gathered (g.ns ++ (v ∷ [])) p
          go None = refl
          go (Some ms) = rw append_assoc

  pub gather_end : length s ≤ at → count ≤ 9 → Some (record { numbers = count; number = list }) ≡ fields_or (fields (behind (drop end s)))
  unfolding fields_or behind fields
  gather_end l k =
      let w : fields (behind (drop end s)) ≡ Some g.ns = sym g.whole ∙ rw (drop_of_length-le s l, append-nil) in
      let m : length g.ns ≤ 9 = omega (arith, g.size) in
      rw (w, le-leb _ _ m, g.stored, g.size)
