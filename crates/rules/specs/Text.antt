-- "The session program": the text of a line, as bytes. Fields in, numbers out.
use Rattle.std.specs.Prelude.{Bool, true, false, ◌&&◌, List, [], ◌∷◌, ◌++◌, ℕ, zero, suc, ◌+◌, ◌-◌, ◌*◌, ◌/◌, ◌%◌, leb, ltb, eqb, length, get_or, if◌then◌else◌, Option, Some, None}
use Prim.Native.Char.{code}
use Prim.Native.String.{String}
use Prim.Native.String as string
use Rattle.rules.specs.Types.{Call, HeadWrite, Device, LoadAt, StoreAt, TsbHit, Event}
use Rattle.rules.specs.Scan.{◌is_from◌to◌}

-- the bytes of a text, which has no character past 127
abbrev pub bytes_of : String → List ℕ
bytes_of string.[] = []
bytes_of (string.◌∷◌ c cs) = code c ∷ bytes_of cs

abbrev pub space : ℕ
space = 0x20

abbrev pub line_feed : ℕ
line_feed = 0x0a

-- the first words, and the answer to a line that is none
abbrev pub word_image : List ℕ
word_image = bytes_of "image"

abbrev pub call_word : List ℕ
call_word = bytes_of "call"

abbrev pub word_head : List ℕ
word_head = bytes_of "head"

abbrev pub word_raise : List ℕ
word_raise = bytes_of "raise"

abbrev pub word_load : List ℕ
word_load = bytes_of "load"

abbrev pub word_store : List ℕ
word_store = bytes_of "store"

abbrev pub word_hit : List ℕ
word_hit = bytes_of "hit"

abbrev pub word_bad : List ℕ
word_bad = bytes_of "bad"

-- two texts are the same
unfoldable pub same : List ℕ → List ℕ → Bool
same [] [] = true
same [] (y ∷ ys) = false
same (x ∷ xs) [] = false
same (x ∷ xs) (y ∷ ys) = eqb x y && same xs ys

-- "parted by one space": the pieces between spaces, of which a leading, trailing or doubled space makes an empty one. The
-- bytes of the piece so far stand in `piece`.
unfoldable pub pieces : List ℕ → List ℕ → List (List ℕ)
pieces piece [] = piece ∷ []
pieces piece (b ∷ bs) = if eqb b space then piece ∷ pieces [] bs else pieces (piece ++ (b ∷ [])) bs

-- "hex of either case": the value of a digit, by its code (0 to 9, a to f, A to F)
unfoldable pub digit_of : ℕ → Option ℕ
digit_of b =
    if b is_from 0x30 to 0x39 then Some (b - 0x30) else
    if b is_from 0x61 to 0x66 then Some (b - 0x57) else
    if b is_from 0x41 to 0x46 then Some (b - 0x37) else
    None

-- the digits of a text, if all are digits
abbrev pub consed : Option ℕ → Option (List ℕ) → Option (List ℕ)
consed None ds = None
consed (Some d) None = None
consed (Some d) (Some ds) = Some (d ∷ ds)

unfoldable pub digits : List ℕ → Option (List ℕ)
digits [] = Some []
digits (b ∷ bs) = consed (digit_of b) (digits bs)

-- the number that digits make, most significant first, written behind those of n
unfoldable pub value_of : ℕ → List ℕ → ℕ
value_of n [] = n
value_of n (d ∷ ds) = value_of (n * 16 + d) ds

-- a field: "1 to 16 digits"
abbrev pub numbered : Option (List ℕ) → Option ℕ
numbered None = None
numbered (Some ds) = Some (value_of 0 ds)

unfoldable pub field : List ℕ → Option ℕ
field text = if length text is_from 1 to 16 then numbered (digits text) else None

-- all fields, if each is a number
unfoldable pub fields : List (List ℕ) → Option (List ℕ)
fields [] = Some []
fields (text ∷ texts) = consed (field text) (fields texts)

-- the bytes that pairs of digits make, if the digits are even in number
abbrev pub byte_of : ℕ → ℕ → Option (List ℕ) → Option (List ℕ)
byte_of d e None = None
byte_of d e (Some bytes) = Some ((d * 16 + e) ∷ bytes)

unfoldable pub paired : List ℕ → Option (List ℕ)
paired [] = Some []
paired (d ∷ []) = None
paired (d ∷ (e ∷ ds)) = byte_of d e (paired ds)

-- the pieces in one: an image's "spaces skipped"
unfoldable pub joined : List (List ℕ) → List ℕ
joined [] = []
joined (text ∷ texts) = text ++ joined texts

-- what a line says
pub data Line : Type 0 where
  bad : Line
  image : List ℕ → Line
  event : Event → Line

-- guest, cpuid, trap, function and five arguments
abbrev pub call_of : List ℕ → Call
call_of ns = record {
  guest = get_or ns 0 0;
  cpu = get_or ns 1 0;
  trap = get_or ns 2 0;
  function = get_or ns 3 0;
  arg0 = get_or ns 4 0;
  arg1 = get_or ns 5 0;
  arg2 = get_or ns 6 0;
  arg3 = get_or ns 7 0;
  arg4 = get_or ns 8 0;
}

-- guest, cpuid, queue and value
abbrev pub head_of : List ℕ → HeadWrite
head_of ns = record { guest = get_or ns 0 0; cpu = get_or ns 1 0; queue = get_or ns 2 0; value = get_or ns 3 0 }

-- devhandle and devino
abbrev pub device_of : List ℕ → Device
device_of ns = record { devhandle = get_or ns 0 0; devino = get_or ns 1 0 }

-- guest and real address, and for a store the value
abbrev pub load_of : List ℕ → LoadAt
load_of ns = record { guest = get_or ns 0 0; address = get_or ns 1 0 }

abbrev pub store_of : List ℕ → StoreAt
store_of ns = record { guest = get_or ns 0 0; address = get_or ns 1 0; value = get_or ns 2 0 }

-- guest, cpuid, side, context mark, page index and ticks
abbrev pub hit_of : List ℕ → TsbHit
hit_of ns = record {
  guest = get_or ns 0 0;
  cpu = get_or ns 1 0;
  side = get_or ns 2 0;
  context = get_or ns 3 0;
  index = get_or ns 4 0;
  ticks = get_or ns 5 0;
}

-- "in the order given under the events". "Only the five arguments of a call may be missing, and are then 0."
unfoldable pub event_line : List ℕ → List ℕ → Line
event_line word ns =
    if same word call_word && (length ns is_from 4 to 9) then event (Event.Call (call_of ns)) else
    if same word word_head && eqb (length ns) 4 then event (Event.Head (head_of ns)) else
    if same word word_raise && eqb (length ns) 2 then event (Event.Raise (device_of ns)) else
    if same word word_load && eqb (length ns) 2 then event (Event.Load (load_of ns)) else
    if same word word_store && eqb (length ns) 3 then event (Event.Store (store_of ns)) else
    if same word word_hit && eqb (length ns) 6 then event (Event.Hit (hit_of ns)) else
    bad

abbrev pub event_or : List ℕ → Option (List ℕ) → Line
event_or word None = bad
event_or word (Some ns) = event_line word ns

-- "The image is any number of hex digits, none included, its spaces skipped."
abbrev pub paired_or : Option (List ℕ) → Option (List ℕ)
paired_or None = None
paired_or (Some ds) = paired ds

abbrev pub image_or : Option (List ℕ) → Line
image_or None = bad
image_or (Some bytes) = image bytes

-- a line's first word and what follows it
abbrev pub line_of : List (List ℕ) → Line
line_of [] = bad
line_of (word ∷ texts) =
    if same word word_image then image_or (paired_or (digits (joined texts))) else event_or word (fields texts)

-- "A line prints bad, and does nothing, if it is too long, has another first word, a field that is no such number, too few
-- or too many fields, or an odd number of image digits."
unfoldable pub parse : List ℕ → Line
parse line = if leb (length line) 2048 then line_of (pieces [] line) else bad

-- "all lower-case hex": a digit, and a number of at most k digits, "no leading zeros"
abbrev pub digit_byte : ℕ → ℕ
digit_byte d = if ltb d 10 then 0x30 + d else 0x57 + d

unfoldable pub hex_of : ℕ → ℕ → List ℕ
hex_of zero n = []
hex_of (suc k) n = if ltb n 16 then digit_byte n ∷ [] else hex_of k (n / 16) ++ (digit_byte (n % 16) ∷ [])

-- a number of 64 bits
abbrev pub hex : ℕ → List ℕ
hex n = hex_of 16 n

-- numbers parted by one space
unfoldable pub spaced : List ℕ → List ℕ
spaced [] = []
spaced (n ∷ []) = hex n
spaced (n ∷ (m ∷ ms)) = hex n ++ (space ∷ spaced (m ∷ ms))
