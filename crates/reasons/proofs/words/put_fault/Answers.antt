-- `words::put_fault` meets its contract: an arm each.
use Prim.Native.Nat.{ℕ}
use mathlib.Core.List.{List}
use Rattle.reasons.specs.declared.fault.Fault.TheVariants.{TooLong, CarriageReturn, OtherWord, EmptyField, NoNumber, TooFew, TooMany, NoDigit, OddDigits}
use Rattle.reasons.specs.declared.fault.Fault.{Fault}
use Rattle.reasons.specs.Words.{decimal, fault_text, fed}
use Rattle.rules.specs.Text.{bytes_of}
use Rattle.reasons.proofs.WordLaws.{put_fed}
use Rattle.reasons.proofs.PutLaws.{put_at}
use Rattle.reasons.proofs.words.put_fault.Goals as goal

abbrev said : Fault → List ℕ
said fault = fed (fault_text fault)

pub returns-in-TooLong : goal.returns-in-TooLong
unfolding fault_text
returns-in-TooLong c = put_at said _ TooLong _ _ _ _ c.in-TooLong.is c.put_text.ensures

pub returns-in-CarriageReturn : goal.returns-in-CarriageReturn
unfolding fault_text
returns-in-CarriageReturn c = put_at said _ CarriageReturn _ _ _ _ c.in-CarriageReturn.is c.put_text-in-CarriageReturn.ensures

pub returns-in-OtherWord : goal.returns-in-OtherWord
unfolding fault_text
returns-in-OtherWord c = put_at said _ OtherWord _ _ _ _ c.in-OtherWord.is c.put_text-in-OtherWord.ensures

pub returns-in-EmptyField : goal.returns-in-EmptyField
unfolding fault_text
returns-in-EmptyField c = put_at said _ (EmptyField _) _ _ _ _ c.in-EmptyField.is (put_fed (bytes_of "field ") (decimal _) (bytes_of " is empty: a space too many") _ _ _ _ c.put_field.ensures)

pub returns-in-NoNumber : goal.returns-in-NoNumber
unfolding fault_text
returns-in-NoNumber c = put_at said _ (NoNumber _) _ _ _ _ c.in-NoNumber.is (put_fed (bytes_of "field ") (decimal _) (bytes_of " is not 1 to 16 hex digits") _ _ _ _ c.put_field-in-NoNumber.ensures)

pub returns-in-TooFew : goal.returns-in-TooFew
unfolding fault_text
returns-in-TooFew c = put_at said _ (TooFew _) _ _ _ _ c.in-TooFew.is c.put_count.ensures

pub returns-in-TooMany : goal.returns-in-TooMany
unfolding fault_text
returns-in-TooMany c = put_at said _ (TooMany _) _ _ _ _ c.in-TooMany.is c.put_count-in-TooMany.ensures

pub returns-in-NoDigit : goal.returns-in-NoDigit
unfolding fault_text
returns-in-NoDigit c = put_at said _ NoDigit _ _ _ _ c.in-NoDigit.is c.put_text-in-NoDigit.ensures

pub returns-in-OddDigits : goal.returns-in-OddDigits
unfolding fault_text
returns-in-OddDigits c = put_at said _ OddDigits _ _ _ _ c.in-OddDigits.is c.put_text-in-OddDigits.ensures
