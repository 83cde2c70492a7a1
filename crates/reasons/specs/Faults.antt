-- Why a line is bad. "A line prints bad .. if it is too long, has another first word, a field that is no such number, too few or
-- too many fields, or an odd number of image digits": the first of these that holds, piece by piece as `parse` of the rules goes.
use Rattle.std.specs.Prelude.{Bool, true, false, List, [], ◌∷◌, ℕ, suc, ◌-◌, leb, eqb, length, get_or, if◌then◌else◌, Option, Some, None}
use Rattle.std.specs.Option.{is_some}
use Rattle.rules.specs.Text.{word_image, call_word, word_head, word_raise, word_load, word_store, word_hit, same, pieces, digits, field, paired_or, joined}
use Rattle.reasons.specs.declared.fault.Word.{Word}
use Rattle.reasons.specs.declared.fault.Word.TheVariants.{Call, Head, Raise, Load, Store, Hit}
use Rattle.reasons.specs.declared.fault.Fault.{Fault}
use Rattle.reasons.specs.declared.fault.Fault.TheVariants.{TooLong, CarriageReturn, OtherWord, EmptyField, NoNumber, TooFew, TooMany, NoDigit, OddDigits}

-- TEST or_tell FAULT then REST
infixr 5 ◌or_tell◌then◌
abbrev pub ◌or_tell◌then◌ : Bool → Fault → Option Fault → Option Fault
◌or_tell◌then◌ true fault rest = rest
◌or_tell◌then◌ false fault rest = Some fault

-- the event that a first word names
unfoldable pub word_of : List ℕ → Option Word
word_of text =
    if same text call_word then Some Call else
    if same text word_head then Some Head else
    if same text word_raise then Some Raise else
    if same text word_load then Some Load else
    if same text word_store then Some Store else
    if same text word_hit then Some Hit else
    None

-- how few and how many fields it takes: "Only the five arguments of a call may be missing"
abbrev pub least : Word → ℕ
least Call = 4
least Head = 4
least Raise = 2
least Load = 2
least Store = 3
least Hit = 6

abbrev pub most : Word → ℕ
most Call = 9
most Head = 4
most Raise = 2
most Load = 2
most Store = 3
most Hit = 6

-- the field at the place k, from 1: a leading, doubled or trailing space makes an empty one
unfoldable pub why_field : ℕ → List ℕ → Option Fault
why_field k text =
    leb 1 (length text) or_tell EmptyField k then
    is_some (field text) or_tell NoNumber k then
    None

-- n fields
unfoldable pub why_count : Word → ℕ → Option Fault
why_count word n =
    leb (least word) n or_tell TooFew word then
    leb n (most word) or_tell TooMany word then
    None

-- the first fault, if there is one
infixr 6 ◌before◌
abbrev pub ◌before◌ : Option Fault → Option Fault → Option Fault
◌before◌ None rest = rest
◌before◌ (Some fault) rest = Some fault

-- the fields that follow n others
unfoldable pub why_fields : Word → ℕ → List (List ℕ) → Option Fault
why_fields word n [] = why_count word n
why_fields word n (text ∷ texts) = why_field (suc n) text before why_fields word (suc n) texts

abbrev pub why_event : Option Word → List (List ℕ) → Option Fault
why_event None texts = Some OtherWord
why_event (Some word) texts = why_fields word 0 texts

-- an image's text, its spaces skipped
unfoldable pub why_image : List ℕ → Option Fault
why_image text =
    is_some (digits text) or_tell NoDigit then
    is_some (paired_or (digits text)) or_tell OddDigits then
    None

-- a line's first word and what follows it
unfoldable pub why_line : List (List ℕ) → Option Fault
why_line [] = Some OtherWord
why_line (word ∷ texts) = if same word word_image then why_image (joined texts) else why_event (word_of word) texts

-- the last byte of a line, and 0 of an empty one
unfoldable pub last_byte : List ℕ → ℕ
last_byte line = get_or line (length line - 1) 0

-- Files from other systems have a carriage return (0d) at every line's end: of a bad line that ends in one, that is told. A good
-- line stays good.
abbrev pub or_return : Bool → Option Fault → Option Fault
or_return returned None = None
or_return returned (Some fault) = Some (if returned then CarriageReturn else fault)

unfoldable pub why_bad : List ℕ → Option Fault
why_bad line =
    leb (length line) 2048 or_tell TooLong then
    or_return (eqb (last_byte line) 0x0d) (why_line (pieces [] line))
