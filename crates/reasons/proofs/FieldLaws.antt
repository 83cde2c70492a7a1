-- Laws of the fields of an event, as the loop goes from one to the next.
use Rattle.std.proofs.Common.{Option, Some, None}
use mathlib.Core.Path.{◌≡◌, sym, ◌∙◌}
use mathlib.Core.List.{List}
use Prim.Native.Nat.{ℕ, ◌+◌, ◌-◌, ◌<◌, ◌≤◌}
use native.Mathlib.Numerals.{add-one}
use native.Mathlib.Omega.{arith}
use lib.ListN.{length, take, drop, drop_of_length-le}
use lib.Seq.{drop-cons, drop-drop}
use Rattle.text.specs.Pieces.{first_length, behind}
use Rattle.text.proofs.PieceLaws.{pieces_split}
use Rattle.reasons.specs.declared.fault.Word.{Word}
use Rattle.reasons.specs.declared.fault.Fault.{Fault}
use Rattle.reasons.specs.Faults.{why_field, why_count, why_fields, ◌before◌}

-- the fields behind the place at, of which those before it were numbers
module _ (s : List ℕ) (word : Word) (at count : ℕ) (w : Option Fault) (e : why_fields word count (behind (drop at s)) ≡ w) where
  module _ (h : at < length s) (next : ℕ) (n : next ≡ at + 1 + first_length (drop (at + 1) s)) where
    abbrev text : List ℕ
    text = take (next - (at + 1)) (drop (at + 1) s)

    step : (why_field (count + 1) text before why_fields word (count + 1) (behind (drop next s))) ≡ w
    unfolding why_fields behind
    step =
        let k : next - (at + 1) ≡ first_length (drop (at + 1) s) = omega arith in
        sym (sym e ∙ rw (drop-cons s at 0 h, ← add-one at, pieces_split (drop (at + 1) s), drop-drop (first_length (drop (at + 1) s)) (at + 1) s, k, n, add-one count))

    pub fields_bad : (fault : Fault) → Some fault ≡ why_field (count + 1) text → Some fault ≡ w
    fields_bad fault q = go (why_field (count + 1) text) q step
      where
        go : (o : Option Fault) → Some fault ≡ o → (o before why_fields word (count + 1) (behind (drop next s))) ≡ w → Some fault ≡ w
        go None f g = cc
        go (Some x) f g = f ∙ g

    pub fields_next : None ≡ why_field (count + 1) text → why_fields word (count + 1) (behind (drop next s)) ≡ w
    fields_next q = go (why_field (count + 1) text) q step
      where
        go : (o : Option Fault) → None ≡ o → (o before why_fields word (count + 1) (behind (drop next s))) ≡ w → why_fields word (count + 1) (behind (drop next s)) ≡ w
        go None f g = g
        go (Some x) f g = cc

  pub fields_end : length s ≤ at → (o : Option Fault) → o ≡ why_count word count → o ≡ w
  unfolding why_fields behind
  fields_end l o q = q ∙ sym (sym e ∙ rw (drop_of_length-le s l))
