-- Writing partition images (request No. 2): what the buffer holds afterwards, and each refusal in its place.
use mathlib.Core.Path.{◌≡◌, refl}
use mathlib.Core.List.{List, [], ◌∷◌, ◌++◌}
use Prim.Native.Nat.{ℕ}
use Prim.Native.String.{String}
use lib.ListN.{replicate}
use Rattle.rules.specs.Types.{Tables}
use Rattle.rules.specs.Kept.{blank_guest, no_guests}
use Rattle.rules.specs.Bits.{bits_of, packed}
use Rattle.rules.specs.Statuses.{writing_numbers}
use Rattle.rules.specs.Text.{Line, bad, image, event, parse, bytes_of}
use Rattle.rules.specs.Writing.{image_of, write_image}
use Rattle.rules.proofs.Computing.{computing}
use Rattle.rules.proofs.Worked.{worked_image, worked_guest, worked_tables}
use Rattle.rules.proofs.Sessions.{empty, after, seven_with}
use Rattle.rules.proofs.ImageCases.{last_numbers, loaded_tables}

-- tables and a buffer, and beside them the status and length that writing answers and what the buffer holds then
pub record Trial : Type 0 where
  pub tables : Tables
  pub buffer : List ℕ
  pub numbers : List ℕ
  pub left : List ℕ

infix 70 ◌into◌answers◌leaving◌
abbrev pub ◌into◌answers◌leaving◌ : Tables → List ℕ → List ℕ → List ℕ → Trial
tables into buffer answers numbers leaving left = record { tables = tables; buffer = buffer; numbers = numbers; left = left }

unfoldable pub tried : List Trial → List Trial
tried [] = []
tried (t ∷ ts) =
    let o = write_image t.tables t.buffer in
    record { tables = t.tables; buffer = t.buffer; numbers = writing_numbers o.answer; left = o.buffer } ∷ tried ts

-- a buffer of n bytes that held ones
abbrev pub ones : ℕ → List ℕ
ones n = replicate n 0xff

-- the bytes of an image line; none of any other
abbrev pub bytes_in : Line → List ℕ
bytes_in bad = []
bytes_in (image bytes) = bytes
bytes_in (event e) = []

abbrev pub image_in : String → List ℕ
image_in line = bytes_in (parse (bytes_of line))

-- tables that lines lead to
abbrev pub tables_after : List String → Tables
tables_after lines = (after (empty 8192) lines).tables

-- one guest with a source: 116 bits, so four bits fill the last byte
abbrev pub one_source : Tables
one_source = record { guests = 1; guest = worked_guest 1 0 0x100 ∷ blank_guest ∷ blank_guest ∷ blank_guest ∷ [] }

abbrev pub one_line : String
one_line = "image 11 121 0000000 0001 0000 0000100 0b 0"

-- all that a guest of one page can configure; the image has what it had before
abbrev pub configured : List String
configured =
    one_line
    ∷ "call 0 0 ff 0 1 1 0"
    ∷ "call 0 0 ff 0 2 2 0"
    ∷ "call 0 0 ff 0 200 1 0"
    ∷ "call 0 0 80 14 3d 80 2"
    ∷ "call 0 0 80 a8 100 5 800"
    ∷ "call 0 0 80 aa 100 5 1"
    ∷ "call 0 0 80 102 400"
    ∷ "raise 100 5"
    ∷ []

abbrev pub seven_extents : String
seven_extents = seven_with "000000c 0001 0000"

-- tables of which an absent guest's record is not blank: with no guest that counts, and with two
abbrev pub behind_last : ℕ → Tables
behind_last guests = record {
  guests = guests;
  guest = worked_guest 2 0 0x100 ∷ worked_guest 1 1 0x200 ∷ worked_guest 1 2 0x300 ∷ blank_guest ∷ [];
}

abbrev pub worked_trials : List Trial
worked_trials =
    -- "For the worked tables": 28 bytes at the front of the buffer, "bytes past the length stay"; room 28 is right
    worked_tables into ones 28 answers 0 ∷ 28 ∷ [] leaving worked_image
    ∷ worked_tables into (ones 28 ++ (1 ∷ 2 ∷ 3 ∷ [])) answers 0 ∷ 28 ∷ [] leaving (worked_image ++ (1 ∷ 2 ∷ 3 ∷ []))
    -- "106 for a buffer too short", which is left "unchanged": room 27, and none
    ∷ worked_tables into ones 27 answers 106 ∷ 0 ∷ [] leaving ones 27
    ∷ worked_tables into [] answers 106 ∷ 0 ∷ [] leaving []
    ∷ []

abbrev pub filled_trials : List Trial
filled_trials =
    -- "Zero bits fill the last byte", whatever the buffer held
    one_source into ones 16 answers 0 ∷ 15 ∷ [] leaving (0x11 ∷ 0x12 ∷ 0x10 ∷ 0 ∷ 0 ∷ 0 ∷ 0 ∷ 1 ∷ 0 ∷ 0 ∷ 0 ∷ 0 ∷ 0x10 ∷ 0 ∷ 0xb0 ∷ 0xff ∷ [])
    ∷ []

abbrev pub refused_trials : List Trial
refused_trials =
    -- "105 for tables with no guest", before 106
    no_guests into ones 28 answers 105 ∷ 0 ∷ [] leaving ones 28
    ∷ no_guests into [] answers 105 ∷ 0 ∷ [] leaving []
    -- 101 before 105, and before 106
    ∷ behind_last 0 into ones 28 answers 101 ∷ 0 ∷ [] leaving ones 28
    ∷ behind_last 2 into [] answers 101 ∷ 0 ∷ [] leaving []
    ∷ []

pub record WriteCases : Type 0 where
  -- a number as bits, most significant first, and no more of it than the width has
  pub bits : bits_of 7 0b0101100 ≡ 0 ∷ 1 ∷ 0 ∷ 1 ∷ 1 ∷ 0 ∷ 0 ∷ []
  pub bits_cut : bits_of 2 7 ≡ 1 ∷ 1 ∷ []
  pub no_bits : bits_of 0 1 ≡ []
  -- eight to a byte, and zeros behind the last
  pub nothing_packed : packed [] ≡ []
  pub byte_packed : packed (1 ∷ 0 ∷ 1 ∷ 0 ∷ 0 ∷ 0 ∷ 0 ∷ 1 ∷ []) ≡ 0xa1 ∷ []
  pub begun_packed : packed (1 ∷ 0 ∷ 1 ∷ 0 ∷ 0 ∷ 0 ∷ 0 ∷ 1 ∷ 1 ∷ []) ≡ 0xa1 ∷ 0x80 ∷ []
  pub worked_tried : tried worked_trials ≡ worked_trials
  pub filled_tried : tried filled_trials ≡ filled_trials
  pub refused_tried : tried refused_trials ≡ refused_trials
  -- "none of what guests configured": a ring, a cookie, a source that is enabled and delivered, a statistics address
  pub settings_left_out : image_of (tables_after configured) ≡ image_in one_line
  -- the last numbers that the fields hold; seven extents
  pub last_numbers_lem : image_of loaded_tables ≡ image_in last_numbers
  pub seven_extents_lem : image_of (tables_after (seven_extents ∷ [])) ≡ image_in seven_extents

pub worked_tried : tried worked_trials ≡ worked_trials
unfolding computing tried
worked_tried = refl

pub filled_tried : tried filled_trials ≡ filled_trials
unfolding computing tried
filled_tried = refl

pub refused_tried : tried refused_trials ≡ refused_trials
unfolding computing tried
refused_tried = refl

pub settings_left_out : image_of (tables_after configured) ≡ image_in one_line
unfolding computing after
settings_left_out = refl

pub last_numbers_lem : image_of loaded_tables ≡ image_in last_numbers
unfolding computing
last_numbers_lem = refl

pub seven_extents_lem : image_of (tables_after (seven_extents ∷ [])) ≡ image_in seven_extents
unfolding computing after
seven_extents_lem = refl

pub write_cases : WriteCases
unfolding computing
write_cases = record {
  bits = refl;
  bits_cut = refl;
  no_bits = refl;
  nothing_packed = refl;
  byte_packed = refl;
  begun_packed = refl;
  worked_tried = worked_tried;
  filled_tried = filled_tried;
  refused_tried = refused_tried;
  settings_left_out = settings_left_out;
  last_numbers_lem = last_numbers_lem;
  seven_extents_lem = seven_extents_lem;
}
