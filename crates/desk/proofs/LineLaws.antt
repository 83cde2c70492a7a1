-- What a line of a plan adds: the first n numbers as the code holds them, and a line cut at the end of its first word.
use Rattle.std.specs.Prelude.{if◌then◌else◌, Option, Some, None}
use mathlib.Core.Bool.{Bool, true, false, ◌&&◌, and-false}
use mathlib.Core.Path.{◌≡◌, refl, sym, ap, ◌∙◌}
use mathlib.Core.List.{List}
use Prim.Native.Nat.{ℕ, ◌+◌, ◌<◌, ◌≤◌, ◌^◌}
use native.Mathlib.Nat.{zero-add}
use native.Mathlib.Omega.{arith}
use lib.Dec.{leb, ltb, eqb}
use lib.ListN.{length, get_or, take, drop}
use lib.Seq.{length-take-le}
use borrow.Author.Tests.{leb-false, le-leb, lt-leb, ne_eqb}
use Rattle.rules.specs.declared.PlanLine.{PlanLine}
use Rattle.rules.specs.Text.{same, fields}
use Rattle.rules.specs.Plan.{word_guest, word_extent, source_word, extent_of, extent_held, source_of, source_held, addition_of, addition_or, plan_line}
use Rattle.text.specs.declared.fields.Fields.{Fields}
use Rattle.text.specs.Pieces.{first_length, behind}
use Rattle.text.specs.Gathered.{fields_of, fields_or, ZeroFrom}
use Rattle.text.proofs.EventLaws.{first_of}
use Rattle.text.proofs.PieceLaws.{pieces_split}
use Rattle.text.proofs.RightLaws.{Right, right_told, right_first}

-- the first n numbers, where those behind them are zeros
module _ (word ns : List ℕ) (n : ℕ) (pre : (n ≤ length ns) × ZeroFrom n ns) where
  size : length (take n ns) ≡ n
  size = length-take-le n ns pre.0

  at : (k : ℕ) → get_or (take n ns) k 0 ≡ get_or ns k 0
  at = first_of ns n pre.0 pre.1

  pub first : addition_of word (take n ns)
      ≡ (if same word word_guest && (eqb n 1 && ltb (get_or ns 0 0) (2 ^ 8)) then Some (PlanLine.Guest (get_or ns 0 0)) else
      if same word word_extent && (eqb n 3 && extent_held ns) then Some (PlanLine.Extent (extent_of ns)) else
      if same word source_word && (eqb n 3 && source_held ns) then Some (PlanLine.Source (source_of ns)) else
      None)
  unfolding addition_of extent_held source_held
  first = rw size (simp at)

-- a line that has more fields than any
too_many : (word ns : List ℕ) → 9 < length ns → None ≡ addition_of word ns
unfolding addition_of
too_many word ns h = simp (ne_eqb (length ns) 1 (λ e. omega arith), ne_eqb (length ns) 3 (λ e. omega arith), and-false)

-- the fields that the code read
module _ (o : Option (List ℕ)) (word : List ℕ) where
  pub fields_bad : None ≡ fields_or o → None ≡ addition_or word o
  unfolding fields_or
  fields_bad e = go o e
    where
      pick : (ns : List ℕ) (t : Bool) → leb (length ns) 9 ≡ t → None ≡ (if t then Some (fields_of ns) else None) → None ≡ addition_of word ns
      pick ns true l q = cc
      pick ns false l q = too_many word ns (leb-false _ _ l)

      go : (p : Option (List ℕ)) → None ≡ fields_or p → None ≡ addition_or word p
      go None q = refl
      go (Some ns) q = pick ns (leb (length ns) 9) refl q

  pub fields_good : (f : Fields) → Some f ≡ fields_or o → addition_of word (take f.numbers f.number) ≡ addition_or word o
  fields_good f e =
      let g : Right o f = right_told o f e in
      ap (addition_of word) (right_first g.ns f g.held) ∙ sym (ap (addition_or word) g.read)

-- a line, cut at the end of its first word
module _ (s : List ℕ) where
  pub plan_long : 2048 < length s → None ≡ plan_line s
  unfolding plan_line
  plan_long h = rw (lt-leb (length s) 2048 h)

  module _ (h : length s ≤ 2048) (end : ℕ) (e : end ≡ 0 + first_length (drop 0 s)) where
    cut : plan_line s ≡ addition_or (take end s) (fields (behind (drop end s)))
    unfolding plan_line
    cut =
        let k : end ≡ first_length s = e ∙ zero-add _ in
        rw (le-leb (length s) 2048 h, k, pieces_split s)

    pub plan_wrong : None ≡ fields_or (fields (behind (drop end s))) → None ≡ plan_line s
    plan_wrong g = fields_bad (fields (behind (drop end s))) (take end s) g ∙ sym cut

    pub plan_right : (f : Fields) → Some f ≡ fields_or (fields (behind (drop end s))) → (r : Option PlanLine) → r ≡ addition_of (take end s) (take f.numbers f.number) → r ≡ plan_line s
    plan_right f g r p = p ∙ fields_good (fields (behind (drop end s))) (take end s) f g ∙ sym cut
