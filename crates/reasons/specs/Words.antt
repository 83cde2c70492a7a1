-- What an answer means, in words: a line of text for every status, and for every fault of a bad line.
use Rattle.std.specs.Prelude.{List, [], ◌∷◌, ◌++◌, ℕ, zero, suc, ◌+◌, ◌-◌, ◌/◌, ◌%◌, ltb, eqb, length, take, if◌then◌else◌, Option, Some, None}
use Prim.Native.String.{String}
use Rattle.rules.specs.Text.{bytes_of, line_feed, word_bad, same, field}
use Rattle.text.specs.Pieces.{first_length}
use Rattle.reasons.specs.declared.fault.Word.{Word}
use Rattle.reasons.specs.declared.fault.Word.TheVariants.{Call, Head, Raise, Load, Store, Hit}
use Rattle.reasons.specs.declared.fault.Fault.{Fault}
use Rattle.reasons.specs.declared.fault.Fault.TheVariants.{TooLong, CarriageReturn, OtherWord, EmptyField, NoNumber, TooFew, TooMany, NoDigit, OddDigits}
use Rattle.reasons.specs.Faults.{last_byte, why_bad}

-- a status and its words
pub record Meaning : Type 0 where
  pub status : ℕ
  pub words : String

infix 70 ◌means◌
abbrev pub ◌means◌ : ℕ → String → Meaning
◌means◌ status words = record { status = status; words = words }

-- "The statuses": the number as it is printed, with its decimal where that differs; the name; what it says
unfoldable pub meanings : List Meaning
meanings =
    0 means "0 EOK: done"
    ∷ 1 means "1 ENOCPU: no such cpu in this guest"
    ∷ 2 means "2 ENORADDR: an address, or a byte of a range, that is not in the guest's own memory"
    ∷ 4 means "4 EBADPGSZ: a page index or page mask that no descriptor may have"
    ∷ 5 means "5 EBADTSB: an associativity or number of entries that no descriptor may have"
    ∷ 6 means "6 EINVAL: a bad number, or a source that is not the caller's"
    ∷ 7 means "7 EBADTRAP: no such call, or its group is not negotiated (a7 to ae: not at 2.0)"
    ∷ 8 means "8 EBADALIGN: an address or number that is not aligned"
    ∷ 9 means "9 EWOULDBLOCK: not every cpu of the list had room; the entries of those served read ffff"
    ∷ 13 means "d (13) ENOTSUPPORTED: a version that is not offered, a call that is not in 2.0, or a source without cookies"
    ∷ 101 means "65 (101): tables that break a rule"
    ∷ 102 means "66 (102): memory too short for the guests' pages"
    ∷ 103 means "67 (103): no such guest or cpu"
    ∷ 104 means "68 (104): no such source"
    ∷ 110 means "6e (110): the image ends before its last field; no guest is left"
    ∷ 111 means "6f (111): the header or a count is outside its limits; value 1 is its guest (0: or the header); no guest is left"
    ∷ 112 means "70 (112): an extent's numbers are outside their limits; values 1, 2: its guest, its position; no guest is left"
    ∷ 113 means "71 (113): an extent starts before the one before it ends; values 1, 2: its guest, its position; no guest is left"
    ∷ 114 means "72 (114): an extent shares a host page with an earlier one; values 1, 2: its guest, its position; no guest is left"
    ∷ 115 means "73 (115): a source has the name of an earlier one; values 1, 2: its guest, its position; no guest is left"
    ∷ 116 means "74 (116): fill bits are not 0, or bytes stand behind; value 1 is the number of guests; no guest is left"
    ∷ []

abbrev pub no_meaning : String
no_meaning = "no status of the rules"

unfoldable pub meaning_in : List Meaning → ℕ → String
meaning_in [] status = no_meaning
meaning_in (m ∷ ms) status = if eqb status m.status then m.words else meaning_in ms status

abbrev pub meaning : ℕ → List ℕ
meaning status = bytes_of (meaning_in meanings status)

-- a number in decimal of at most k digits, no leading zeros; one of 64 bits
unfoldable pub decimal_of : ℕ → ℕ → List ℕ
decimal_of zero n = []
decimal_of (suc k) n = if ltb n 10 then (0x30 + n) ∷ [] else decimal_of k (n / 10) ++ ((0x30 + n % 10) ∷ [])

abbrev pub decimal : ℕ → List ℕ
decimal n = decimal_of 20 n

-- the fields that an event takes
unfoldable pub form : Word → List ℕ
form Call = bytes_of "call GUEST CPU TRAP FUNCTION and up to 5 arguments"
form Head = bytes_of "head GUEST CPU QUEUE VALUE"
form Raise = bytes_of "raise DEVHANDLE DEVINO"
form Load = bytes_of "load GUEST ADDRESS"
form Store = bytes_of "store GUEST ADDRESS VALUE"
form Hit = bytes_of "hit GUEST CPU SIDE CONTEXT INDEX TICKS"

unfoldable pub fault_text : Fault → List ℕ
fault_text TooLong = bytes_of "the line has more than 2,048 bytes"
fault_text CarriageReturn = bytes_of "the line ends in a carriage return (0d): end lines with a line feed alone"
fault_text OtherWord = bytes_of "the first word is none of image, call, head, raise, load, store, hit (lower case, no space before it)"
fault_text (EmptyField k) = bytes_of "field " ++ decimal k ++ bytes_of " is empty: a space too many"
fault_text (NoNumber k) = bytes_of "field " ++ decimal k ++ bytes_of " is not 1 to 16 hex digits"
fault_text (TooFew word) = bytes_of "too few fields: " ++ form word
fault_text (TooMany word) = bytes_of "too many fields: " ++ form word
fault_text NoDigit = bytes_of "the image has a byte that is no hex digit"
fault_text OddDigits = bytes_of "the image has an odd number of hex digits"

unfoldable pub why_text : Option Fault → List ℕ
why_text None = bytes_of "nothing is wrong with the line"
why_text (Some fault) = fault_text fault

-- a status as it is printed: a text that is no number is no status
unfoldable pub status_text : Option ℕ → List ℕ
status_text None = bytes_of no_meaning
status_text (Some status) = meaning status

-- an answer without its line feed
unfoldable pub unfed : List ℕ → List ℕ
unfed answer = if eqb (last_byte answer) line_feed then take (length answer - 1) answer else answer

abbrev pub first_piece : List ℕ → List ℕ
first_piece text = take (first_length text) text

-- with a line feed behind it
abbrev pub fed : List ℕ → List ℕ
fed text = text ++ (line_feed ∷ [])

-- the reason for the answer to a line, by the answer's first piece
unfoldable pub reason_by : List ℕ → List ℕ → List ℕ
reason_by line text = if same text word_bad then why_text (why_bad line) else status_text (field text)

-- the line of text that explains what the session printed for a line
unfoldable pub reason : List ℕ → List ℕ → List ℕ
reason line answer = fed (reason_by line (first_piece (unfed answer)))
