-- The program `plan` (request No. 2): its input is a plan, as lines, or one image line as in a session, and it prints the other form.
use Rattle.std.specs.Prelude.{Bool, ◌&&◌, List, [], ◌∷◌, ◌++◌, ℕ, suc, ◌+◌, ◌-◌, ◌/◌, ◌%◌, ◌^◌, leb, ltb, eqb, length, get_or, set, replicate, if◌then◌else◌, Option, Some, None, Ok, Err}
use Rattle.rules.specs.Types.{Extent, Extents, Source, Plant, Guest, Tables, Loading, Loaded, WriteRefusal, PlanLine, Stage, Desk}
use Rattle.rules.specs.Limits.{guest_limit, cpu_limit, extent_limit, source_limit}
use Rattle.rules.specs.Scan.{each_below, ◌is_from◌to◌}
use Rattle.rules.specs.Kept.{blank_extent, blank_cpu, blank_source, no_versions, no_guests, guest_at, extent_at, source_at}
use Rattle.rules.specs.Image.{load}
use Rattle.rules.specs.Statuses.{loading_numbers, write_status}
use Rattle.rules.specs.Rulings.{RulingBy, refused, granted}
use Rattle.rules.specs.Text.{bytes_of, space, line_feed, word_image, word_bad, same, pieces, fields, Line, bad, image, event, parse, digit_byte, spaced}
use Rattle.rules.specs.Session.{lines_from}
use Rattle.rules.specs.Writing.{write_rule}

abbrev pub word_guest : List ℕ
word_guest = bytes_of "guest"

abbrev pub word_extent : List ℕ
word_extent = bytes_of "extent"

abbrev pub source_word : List ℕ
source_word = bytes_of "source"

-- "extent .. real page, count, host page", which tables hold in 32, 16 and 16 bits
abbrev pub extent_of : List ℕ → Extent
extent_of ns = record { real = get_or ns 0 0; count = get_or ns 1 0; host = get_or ns 2 0 }

unfoldable pub extent_held : List ℕ → Bool
extent_held ns = ltb (get_or ns 0 0) (2 ^ 32) && (ltb (get_or ns 1 0) (2 ^ 16) && ltb (get_or ns 2 0) (2 ^ 16))

-- "source .. devhandle, devino, cookie support", which tables hold in 32 bits, in 8, and as yes or no; its settings are as after loading
abbrev pub source_of : List ℕ → Source
source_of ns = record {
  devhandle = get_or ns 0 0;
  devino = get_or ns 1 0;
  cookies = eqb (get_or ns 2 0) 1;
  enabled = 0;
  state = 0;
  target = 0;
  cookie = 0;
}

unfoldable pub source_held : List ℕ → Bool
source_held ns = ltb (get_or ns 0 0) (2 ^ 32) && (ltb (get_or ns 1 0) (2 ^ 8) && ltb (get_or ns 2 0) 2)

-- what a word and its numbers add; "guest .. cpus", which tables hold in 8 bits
unfoldable pub addition_of : List ℕ → List ℕ → Option PlanLine
addition_of word ns =
    if same word word_guest && (eqb (length ns) 1 && ltb (get_or ns 0 0) (2 ^ 8)) then Some (PlanLine.Guest (get_or ns 0 0)) else
    if same word word_extent && (eqb (length ns) 3 && extent_held ns) then Some (PlanLine.Extent (extent_of ns)) else
    if same word source_word && (eqb (length ns) 3 && source_held ns) then Some (PlanLine.Source (source_of ns)) else
    None

abbrev pub addition_or : List ℕ → Option (List ℕ) → Option PlanLine
addition_or word None = None
addition_or word (Some ns) = addition_of word ns

abbrev pub addition_in : List (List ℕ) → Option PlanLine
addition_in [] = None
addition_in (word ∷ texts) = addition_or word (fields texts)

-- a line of a plan: fields "as in a session", and no longer than a line there
unfoldable pub plan_line : List ℕ → Option PlanLine
plan_line line = if leb (length line) 2048 then addition_in (pieces [] line) else None

-- The tables that lines draw.

-- a guest of so many cpus, with nothing else yet
abbrev pub new_guest : ℕ → Guest
new_guest cpus = record {
  extents = record { extents = 0; extent = replicate extent_limit blank_extent };
  plant = record { versions = no_versions; cpus = cpus; cpu = replicate cpu_limit blank_cpu; sources = 0; source = replicate source_limit blank_source };
}

-- an extent more, and a source more, behind those that are there
abbrev pub more_extents : Extents → Extent → Extents
more_extents extents x = record { extents = extents.extents + 1; extent = set extents.extent extents.extents x }

abbrev pub more_sources : Plant → Source → Plant
more_sources plant s = record {
  versions = plant.versions;
  cpus = plant.cpus;
  cpu = plant.cpu;
  sources = plant.sources + 1;
  source = set plant.source plant.sources s;
}

-- the last guest, and the tables with another in its place
abbrev pub last_guest : Tables → Guest
last_guest tables = guest_at tables (tables.guests - 1)

abbrev pub with_last : Tables → Guest → Tables
with_last tables guest = record { guests = tables.guests; guest = set tables.guest (tables.guests - 1) guest }

abbrev pub some_guest : Tables → Bool
some_guest tables = tables.guests is_from 1 to guest_limit

abbrev pub drawing : Tables → Desk
drawing tables = record { stage = Stage.Drawing; tables = tables }

abbrev pub bad_at : ℕ → Tables → Desk
bad_at n tables = record { stage = Stage.Bad n; tables = tables }

-- line n is added, "a line that is no such line, or that tables cannot hold" is not: a guest behind the last place, an extent or a source
-- before the first guest or behind the last place
unfoldable pub drawn : ℕ → Tables → Option PlanLine → Desk
drawn n tables None = bad_at n tables
drawn n tables (Some (PlanLine.Guest cpus)) =
    if ltb tables.guests guest_limit then
    drawing (record { guests = tables.guests + 1; guest = set tables.guest tables.guests (new_guest cpus) })
    else bad_at n tables
drawn n tables (Some (PlanLine.Extent x)) =
    if some_guest tables && ltb (last_guest tables).extents.extents extent_limit then
    drawing (with_last tables (record { extents = more_extents (last_guest tables).extents x; plant = (last_guest tables).plant }))
    else bad_at n tables
drawn n tables (Some (PlanLine.Source s)) =
    if some_guest tables && ltb (last_guest tables).plant.sources source_limit then
    drawing (with_last tables (record { extents = (last_guest tables).extents; plant = more_sources (last_guest tables).plant s }))
    else bad_at n tables

-- The lines of the input, one by one.

-- the first line may be an image; it "does" what it does in a session
abbrev pub loaded_desk : Loaded → Desk
loaded_desk l = record { stage = Stage.Loaded l.answer; tables = l.tables }

abbrev pub begun : ℕ → Tables → List ℕ → Line → Desk
begun n tables line (image bytes) = loaded_desk (load bytes)
begun n tables line bad = drawn n tables (plan_line line)
begun n tables line (event e) = drawn n tables (plan_line line)

-- line n: behind an image there is no line, and behind a bad line none is looked at
abbrev pub stepped_by : ℕ → Tables → List ℕ → Stage → Desk
stepped_by n tables line Stage.Fresh = begun n tables line (parse line)
stepped_by n tables line Stage.Drawing = drawn n tables (plan_line line)
stepped_by n tables line (Stage.Loaded answer) = bad_at n tables
stepped_by n tables line (Stage.Bad k) = bad_at k tables

unfoldable pub stepped : ℕ → Desk → List ℕ → Desk
stepped n desk line = stepped_by n desk.tables line desk.stage

unfoldable pub steps : ℕ → Desk → List (List ℕ) → Desk
steps n desk [] = desk
steps n desk (line ∷ lines) = steps (suc n) (stepped n desk line) lines

unfoldable pub fresh : Desk
fresh = record { stage = Stage.Fresh; tables = no_guests }

-- the first line has number 1
unfoldable pub desk_after : List ℕ → Desk
desk_after input = steps 1 fresh (lines_from [] input)

-- What is printed.

-- bytes, each as two digits
unfoldable pub digit_pairs : List ℕ → List ℕ
digit_pairs [] = []
digit_pairs (b ∷ bs) = digit_byte (b / 16) ∷ (digit_byte (b % 16) ∷ digit_pairs bs)

-- a word, numbers, and the line's end
unfoldable pub word_line : List ℕ → List ℕ → List ℕ
word_line word ns = word ++ (space ∷ (spaced ns ++ (line_feed ∷ [])))

unfoldable pub image_line : List ℕ → List ℕ
image_line bytes = word_image ++ (space ∷ (digit_pairs bytes ++ (line_feed ∷ [])))

unfoldable pub extent_line : Extent → List ℕ
extent_line x = word_line word_extent (x.real ∷ x.count ∷ x.host ∷ [])

unfoldable pub source_line : Source → List ℕ
source_line s = word_line source_word (s.devhandle ∷ s.devino ∷ (if s.cookies then 1 else 0) ∷ [])

unfoldable pub guest_lines : Guest → List ℕ
guest_lines guest =
    word_line word_guest (guest.plant.cpus ∷ [])
    ++ (each_below guest.extents.extents (λ i. extent_line (extent_at guest.extents i))
    ++ each_below guest.plant.sources (λ i. source_line (source_at guest.plant i)))

unfoldable pub plan_text : Tables → List ℕ
plan_text tables = each_below tables.guests (λ g. guest_lines (guest_at tables g))

-- "A plan whose tables break a rule prints 65, an empty one 69": the status of writing, into room for every image
abbrev pub written_text : RulingBy WriteRefusal (List ℕ) → List ℕ
written_text (refused r) = spaced (write_status r ∷ []) ++ (line_feed ∷ [])
written_text (granted bytes) = image_line bytes

-- "an image line that is refused prints what loading answers"
abbrev pub loaded_text : Tables → Loading → List ℕ
loaded_text tables (Ok u) = plan_text tables
loaded_text tables (Err r) = spaced (loading_numbers (Err r)) ++ (line_feed ∷ [])

-- a bad line "prints bad and its number and no image"
abbrev pub stage_text : Tables → Stage → List ℕ
stage_text tables Stage.Fresh = written_text (write_rule tables 1024)
stage_text tables Stage.Drawing = written_text (write_rule tables 1024)
stage_text tables (Stage.Loaded answer) = loaded_text tables answer
stage_text tables (Stage.Bad n) = word_line word_bad (n ∷ [])

unfoldable pub desk_text : Desk → List ℕ
desk_text desk = stage_text desk.tables desk.stage

-- what the program prints for a whole input
unfoldable pub planned : List ℕ → List ℕ
planned input = desk_text (desk_after input)
