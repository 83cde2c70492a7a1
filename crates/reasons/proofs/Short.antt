-- A reason has at most 120 bytes, its line feed included.
use Rattle.std.specs.Prelude.{if◌then◌else◌, Option, Some, None}
use mathlib.Core.Bool.{Bool, true, false, ◌&&◌}
use mathlib.Core.Path.{◌≡◌, refl, sym}
use mathlib.Core.List.{List, [], ◌∷◌}
use Prim.Native.Nat.{ℕ, ◌+◌, ◌≤◌}
use native.Mathlib.Omega.{arith}
use lib.Dec.{leb, eqb}
use lib.ListN.{length, take, length-append}
use lib.Seq.{length-take-le, length-sets}
use borrow.Author.Tests.{leb-true}
use Rattle.rules.specs.Text.{bytes_of, word_bad, same, field}
use Rattle.rules.proofs.Tests.{and_left, and_right}
use Rattle.reasons.specs.declared.fault.Word.{Word}
use Rattle.reasons.specs.declared.fault.Word.TheVariants.{Call, Head, Raise, Load, Store, Hit}
use Rattle.reasons.specs.declared.fault.Fault.{Fault}
use Rattle.reasons.specs.declared.fault.Fault.TheVariants.{TooLong, CarriageReturn, OtherWord, EmptyField, NoNumber, TooFew, TooMany, NoDigit, OddDigits}
use Rattle.reasons.specs.Faults.{why_bad}
use Rattle.reasons.specs.Put.{Put}
use Rattle.reasons.specs.Words.{Meaning, meanings, meaning_in, form, fault_text, why_text, status_text, unfed, first_piece, reason_by, reason}
use Rattle.reasons.proofs.PutLaws.{decimal_most}

abbrev Short : List ℕ → Type 0
Short text = length text ≤ 119

-- a test of the whole table
short_all : List Meaning → Bool
short_all [] = true
short_all (m ∷ ms) = leb (length (bytes_of m.words)) 119 && short_all ms

meaning_short : (ms : List Meaning) (status : ℕ) → short_all ms ≡ true → Short (bytes_of (meaning_in ms status))
unfolding meaning_in short_all
meaning_short [] status e = omega arith
meaning_short (m ∷ ms) status e =
    go (eqb status m.status) (meaning_short ms status (and_right (leb (length (bytes_of m.words)) 119) _ e))
  where
    go : (t : Bool) → Short (bytes_of (meaning_in ms status)) → Short (bytes_of (if t then m.words else meaning_in ms status))
    go true rest = leb-true _ _ (and_left _ _ e)
    go false rest = rest

form_short : (word : Word) → length (form word) ≤ 64
unfolding form
form_short Call = omega arith
form_short Head = omega arith
form_short Raise = omega arith
form_short Load = omega arith
form_short Store = omega arith
form_short Hit = omega arith

fault_short : (fault : Fault) → Short (fault_text fault)
unfolding fault_text
fault_short TooLong = omega arith
fault_short CarriageReturn = omega arith
fault_short OtherWord = omega arith
fault_short (EmptyField k) = rw length-append (omega (arith, decimal_most 20 k))
fault_short (NoNumber k) = rw length-append (omega (arith, decimal_most 20 k))
fault_short (TooFew word) = omega (arith, form_short word)
fault_short (TooMany word) = omega (arith, form_short word)
fault_short NoDigit = omega arith
fault_short OddDigits = omega arith

why_short : (why : Option Fault) → Short (why_text why)
unfolding why_text
why_short None = omega arith
why_short (Some fault) = fault_short fault

status_short : (o : Option ℕ) → Short (status_text o)
unfolding status_text short_all meanings
status_short None = omega arith
status_short (Some status) = meaning_short meanings status refl

pub reason_short : (line answer : List ℕ) → length (reason line answer) ≤ 120
unfolding reason reason_by
reason_short line answer = rw length-append (go (same text word_bad))
  where
    text : List ℕ
    text = first_piece (unfed answer)

    go : (t : Bool) → length (if t then why_text (why_bad line) else status_text (field text)) + 1 ≤ 120
    go true = omega (arith, why_short (why_bad line))
    go false = omega (arith, status_short (field text))

-- so it has room, and the front of the array that holds it can be lent
module _ (line answer m o : List ℕ) (r : ℕ) (p : Put m o 0 r (reason line answer)) (l : length m ≡ 256) where
  pub reason_fits : r ≤ length o
  reason_fits = rw (p.bytes, length-sets) (omega (arith, p.behind, reason_short line answer))

  pub reason_taken : r ≡ length (take r o)
  reason_taken = sym (length-take-le r o reason_fits)
