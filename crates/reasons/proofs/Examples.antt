-- Worked examples: a line for each fault, a good line, and some answers with their reasons.
use Rattle.std.proofs.Common.{Option, Some, None}
use mathlib.Core.Path.{◌≡◌, refl}
use Prim.Native.String.{String, ◌++◌}
use lib.ListN.{replicate}
use Rattle.text.specs.Pieces.{first_length}
use Rattle.rules.proofs.Computing.{computing}
use Rattle.rules.specs.Text.{bytes_of}
use Rattle.reasons.specs.declared.fault.Word.TheVariants.{Call, Head, Hit}
use Rattle.reasons.specs.declared.fault.Fault.{Fault}
use Rattle.reasons.specs.declared.fault.Fault.TheVariants.{TooLong, CarriageReturn, OtherWord, EmptyField, NoNumber, TooFew, TooMany, NoDigit, OddDigits}
use Rattle.reasons.specs.Faults.{word_of, why_field, why_count, why_fields, why_image, why_line, last_byte, why_bad}
use Rattle.reasons.specs.Words.{meanings, meaning_in, decimal_of, form, fault_text, why_text, status_text, unfed, reason_by, reason}

-- every definition of the reasons, and of the rules, computes
unfoldable explaining : Unit {0}
unfolding computing first_length word_of why_field why_count why_fields why_image why_line last_byte why_bad meanings meaning_in decimal_of form fault_text why_text status_text unfed reason_by reason
explaining = tt

abbrev why : String → Option Fault
why line = why_bad (bytes_of line)

abbrev Explains : String → String → String → Type 0
Explains line answer words = reason (bytes_of line) (bytes_of answer) ≡ bytes_of (words ++ "\n")

good : why "call 0 0 80 a8 200 5 800" ≡ None
unfolding explaining
good = refl

good_hit : why "hit 0 0 1 1 3 5" ≡ None
unfolding explaining
good_hit = refl

good_image : why "image 1 2 " ≡ None
unfolding explaining
good_image = refl

other_word : why "calls 0 0 80 15" ≡ Some OtherWord
unfolding explaining
other_word = refl

empty_line : why "" ≡ Some OtherWord
unfolding explaining
empty_line = refl

empty_field : why "raise 100  5" ≡ Some (EmptyField 2)
unfolding explaining
empty_field = refl

last_empty : why "load 0 80 " ≡ Some (EmptyField 3)
unfolding explaining
last_empty = refl

no_number : why "load 0 0x80" ≡ Some (NoNumber 2)
unfolding explaining
no_number = refl

digits_17 : why "load 0 00000000000000080" ≡ Some (NoNumber 2)
unfolding explaining
digits_17 = refl

too_few : why "head 0 0 3c" ≡ Some (TooFew Head)
unfolding explaining
too_few = refl

no_ticks : why "hit 0 0 1 1 3" ≡ Some (TooFew Hit)
unfolding explaining
no_ticks = refl

too_many : why "call 0 0 80 14 3c 0 0 0 0 0" ≡ Some (TooMany Call)
unfolding explaining
too_many = refl

no_digit : why "image 12 2g1" ≡ Some NoDigit
unfolding explaining
no_digit = refl

odd_digits : why "image 12 1" ≡ Some OddDigits
unfolding explaining
odd_digits = refl

return : why "load 0 80\r" ≡ Some CarriageReturn
unfolding explaining
return = refl

too_long : why_bad (replicate 2049 0x30) ≡ Some TooLong
unfolding why_bad
too_long = refl

slip : Explains "call 0 0 80 a8 200 5 800" "6 0 0 0 0\n" "6 EINVAL: a bad number, or a source that is not the caller's"
unfolding explaining
slip = refl

short_image : Explains "image 12" "6e" "6e (110): the image ends before its last field; no guest is left"
unfolding explaining
short_image = refl

bad_field : Explains "call 0 0 80 14 3c 0 0 0 0 zz" "bad\n" "field 10 is not 1 to 16 hex digits"
unfolding explaining
bad_field = refl

bad_count : Explains "head 0 0 3c" "bad" "too few fields: head GUEST CPU QUEUE VALUE"
unfolding explaining
bad_count = refl

bad_hit : Explains "hit 0 0 1 1 3 5 0" "bad" "too many fields: hit GUEST CPU SIDE CONTEXT INDEX TICKS"
unfolding explaining
bad_hit = refl
