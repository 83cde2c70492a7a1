-- Laws of the table of meanings, and of the reason at each return of the code.
use Rattle.std.proofs.Common.{Some, None}
use mathlib.Core.Bool.{Bool, true, false}
use Rattle.std.specs.Prelude.{Option, Some, None}
use mathlib.Core.Path.{◌≡◌, refl, ◌∙◌}
use mathlib.Core.List.{List, [], ◌∷◌, ◌++◌, append_assoc}
use Prim.Native.Nat.{ℕ, zero, suc, ◌+◌, ◌-◌, ◌≤◌}
use native.Mathlib.Nat.{zero-add}
use native.Mathlib.Omega.{arith}
use lib.ListN.{length, get_or, take, drop}
use borrow.Author.Tests.{eq-eqb, ne_eqb}
use Rattle.rules.specs.Text.{bytes_of, line_feed, word_bad, same, field}
use Rattle.text.specs.Pieces.{first_length}
use Rattle.reasons.specs.declared.fault.Fault.{Fault}
use Rattle.reasons.specs.Faults.{last_byte, why_bad}
use Rattle.reasons.specs.Words.{Meaning, meaning_in, meaning, no_meaning, why_text, status_text, unfed, first_piece, fed, reason_by, reason}
use Rattle.reasons.specs.Put.{Put}

-- the status is none of a table's, beside what is known already: as a match tells it of the numbers that have no arm
abbrev pub Others : Type 0 → List Meaning → ℕ → Type 0
Others known [] status = known
Others known (m ∷ ms) status = Others (known × (status ≡ m.status → ⊥)) ms status

-- none of a table's first n
passed : (known : Type 0) (n : ℕ) (ms : List Meaning) (status : ℕ) → Others known (take n ms) status → known × (meaning_in ms status ≡ meaning_in (drop n ms) status)
unfolding meaning_in
passed known zero ms status o = (o, refl)
passed known (suc n) [] status o = (o, refl)
passed known (suc n) (m ∷ ms) status o =
    let rest : (known × (status ≡ m.status → ⊥)) × (meaning_in ms status ≡ meaning_in (drop n ms) status) = passed (known × (status ≡ m.status → ⊥)) n ms status o in
    (rest.0.0, rw (ne_eqb status m.status rest.0.1, rest.1))

pub none_of : (n : ℕ) (ms : List Meaning) (status : ℕ) → Others (Unit {0}) (take n ms) status → meaning_in ms status ≡ meaning_in (drop n ms) status
none_of n ms status o = (passed (Unit {0}) n ms status o).1

-- a text in two parts, with its line feed
pub put_fed : (a b c m o : List ℕ) (at r : ℕ) → Put m o at r (a ++ (b ++ fed c)) → Put m o at r (fed (a ++ (b ++ c)))
put_fed a b c m o at r p = simp append_assoc p

-- a status, by the number that its text is
module _ (text m o : List ℕ) (r : ℕ) where
  pub status_none : None ≡ field text → Put m o 0 r (fed (bytes_of no_meaning)) → Put m o 0 r (fed (status_text (field text)))
  unfolding status_text
  status_none q p = rw (← q) p

  pub status_is : (v : ℕ) → Some v ≡ field text → Put m o 0 r (fed (meaning v)) → Put m o 0 r (fed (status_text (field text)))
  unfolding status_text
  status_is v q p = rw (← q) p

-- the reason, by an answer's first piece: t is what the code's test of it came to
module _ (line text m o : List ℕ) (r : ℕ) (t : Bool) (p : t ≡ same text word_bad) where
  pub by_bad : t ≡ true → (why : Option Fault) → why ≡ why_bad line → Put m o 0 r (fed (why_text why)) → Put m o 0 r (fed (reason_by line text))
  unfolding reason_by
  by_bad h why e w = rw (← p, h, ← e) w

  pub by_status : t ≡ false → Put m o 0 r (fed (status_text (field text))) → Put m o 0 r (fed (reason_by line text))
  unfolding reason_by
  by_status h w = rw (← p, h) w

-- the first piece, as the code cuts it out
pub first_piece_lem : (line text m o : List ℕ) (r end : ℕ) → end ≡ 0 + first_length (drop 0 text)
    → Put m o 0 r (fed (reason_by line (take end text))) → Put m o 0 r (fed (reason_by line (first_piece text)))
first_piece_lem line text m o r end e p =
    let k : end ≡ first_length text = e ∙ zero-add _ in
    rw (← k) p

-- an answer's line feed, as a match on its last byte tells it
pub with_feed : (s : List ℕ) → 1 ≤ length s → get_or s (length s - 1) 0 ≡ 10 → take (length s - 1) s ≡ unfed s
unfolding unfed last_byte
with_feed s h e = rw (eq-eqb _ _ e)

pub without_feed : (s : List ℕ) → (1 ≤ length s → get_or s (length s - 1) 0 ≡ 10 → ⊥) → s ≡ unfed s
unfolding unfed last_byte
without_feed [] f = refl
without_feed (b ∷ s) f = rw (ne_eqb (get_or (b ∷ s) (length (b ∷ s) - 1) 0) line_feed (f (omega arith)))

pub ruleset feeds = (with_feed, without_feed)

pub whole_reason : (line answer t m o : List ℕ) (r : ℕ) → t ≡ unfed answer → Put m o 0 r (fed (reason_by line (first_piece t))) → Put m o 0 r (reason line answer)
unfolding reason
whole_reason line answer t m o r e p = rw (← e) p
