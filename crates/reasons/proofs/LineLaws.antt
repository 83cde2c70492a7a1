-- The fault of a line at each return of the code: t is what the code's test came to.
use Rattle.std.specs.Prelude.{if◌then◌else◌, Option, Some, None}
use mathlib.Core.Bool.{Bool, true, false}
use mathlib.Core.Path.{◌≡◌, refl, sym, ◌∙◌}
use mathlib.Core.List.{List, [], ◌∷◌}
use Prim.Native.Nat.{ℕ, ◌+◌, ◌<◌, ◌≤◌}
use native.Mathlib.Nat.{zero-add}
use native.Mathlib.Omega.{arith}
use lib.Dec.{eqb}
use lib.ListN.{length, take, drop}
use borrow.Author.Tests.{le-leb, lt-leb, eq-eqb, ne_eqb}
use Rattle.rules.specs.Text.{word_image, same, pieces}
use Rattle.text.specs.Pieces.{first_length, behind, unspaced}
use Rattle.text.proofs.PieceLaws.{pieces_split, joined_behind}
use Rattle.reasons.specs.declared.fault.Word.{Word}
use Rattle.reasons.specs.declared.fault.Fault.{Fault}
use Rattle.reasons.specs.declared.fault.Fault.TheVariants.{TooLong, CarriageReturn, OtherWord}
use Rattle.reasons.specs.Faults.{word_of, last_byte, why_image, why_fields, why_event, why_line, why_bad}

-- a line, cut at the end of its first word
module _ (s : List ℕ) (end : ℕ) (e : end ≡ 0 + first_length (drop 0 s)) where
  cut : why_line (pieces [] s) ≡ (if same (take end s) word_image then why_image (unspaced (drop end s)) else why_event (word_of (take end s)) (behind (drop end s)))
  unfolding why_line
  cut =
      let k : end ≡ first_length s = e ∙ zero-add _ in
      rw (k, pieces_split s, joined_behind s)

  module _ (t : Bool) (p : t ≡ same (take end s) word_image) where
    pub line_image : t ≡ true → (why : Option Fault) → why ≡ why_image (unspaced (drop end s)) → why ≡ why_line (pieces [] s)
    line_image q why f = f ∙ rw (cut, ← p, q)

    module _ (q : t ≡ false) where
      pub line_other : None ≡ word_of (take end s) → Some OtherWord ≡ why_line (pieces [] s)
      line_other g = rw (cut, ← p, q, ← g)

      pub line_event : (word : Word) → Some word ≡ word_of (take end s) → (why : Option Fault) → why ≡ why_fields word 0 (behind (drop end s)) → why ≡ why_line (pieces [] s)
      line_event word g why f = f ∙ rw (cut, ← p, q, ← g)

pub last_none : (s : List ℕ) → length s ≡ 0 → 0 ≡ last_byte s
unfolding last_byte
last_none [] e = refl
last_none (b ∷ bs) e = absurd (omega arith)

-- the last step
module _ (s : List ℕ) where
  pub bad_long : 2048 < length s → Some TooLong ≡ why_bad s
  unfolding why_bad
  bad_long h = rw (lt-leb (length s) 2048 h)

  module _ (h : length s ≤ 2048) where
    pub bad_none : None ≡ why_line (pieces [] s) → None ≡ why_bad s
    unfolding why_bad
    bad_none p = rw (le-leb (length s) 2048 h, ← p)

    module _ (fault : Fault) (p : Some fault ≡ why_line (pieces [] s)) (b : ℕ) (l : b ≡ last_byte s) where
      faulty : (t : Bool) → eqb (last_byte s) 0x0d ≡ t → Some (if t then CarriageReturn else fault) ≡ why_bad s
      unfolding why_bad
      faulty t u = rw (le-leb (length s) 2048 h, u, ← p)

      pub bad_return : b ≡ 0x0d → Some CarriageReturn ≡ why_bad s
      bad_return r = faulty true (eq-eqb _ _ (sym l ∙ r))

      pub bad_fault : (b ≡ 0x0d → ⊥) → Some fault ≡ why_bad s
      bad_fault r = faulty false (ne_eqb _ _ (λ x. r (l ∙ x)))
