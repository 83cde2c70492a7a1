-- "The partition image": from bytes to tables. Nothing here speaks of memory.
use Rattle.std.specs.Prelude.{Bool, ◌&&◌, ◌||◌, not, ℕ, zero, suc, ◌+◌, ◌-◌, ◌*◌, ◌/◌, ◌%◌, min, max, List, length, set, replicate, leb, ltb, eqb, Option, Ok, Err}
use Rattle.rules.specs.Types.{Extent, Extents, Source, Guest, Tables, ImageRefusal, ImageShort, HeaderOrCount, ExtentNumbers, ExtentOrder, PagesShared, SourceTwice, FillOrBehind, Loaded}
use Rattle.rules.specs.Limits.{guest_limit, cpu_limit, extent_limit, source_limit, real_pages, host_pages}
use Rattle.rules.specs.Scan.{some_below, all_below, ◌is_from◌to◌, first_below, is_found}
use Rattle.rules.specs.Kept.{blank_extent, blank_cpu, blank_source, blank_guest, no_versions, no_guests, guest_at, plant_at, extent_at, source_at}
use Rattle.rules.specs.Bits.{field_at, reaches}
use Rattle.rules.specs.Widths.{edition_width, guests_width, header_bits, cpus_width, extents_width, sources_width, counts_bits}
use Rattle.rules.specs.Widths.{real_page_width, page_count_width, host_page_width, extent_bits, devhandle_width, devino_width, cookie_support_width, source_bits}
use Rattle.rules.specs.Rulings.{RulingBy, refused, granted, ◌or_refuse◌then◌, ◌refuses◌then◌, ◌grants◌}

-- the rules on an image
abbrev pub Reading : Type 0 → Type 0
Reading A = RulingBy ImageRefusal A

-- "a header or count outside its limits answers 111 at once, missing bits 110 at once":
-- WIDTH bits_at BIT of BYTES from LEAST to MOST else STATUS
infix 40 ◌bits_at◌of◌from◌to◌else◌
unfoldable pub ◌bits_at◌of◌from◌to◌else◌ : ℕ → ℕ → List ℕ → ℕ → ℕ → ImageRefusal → Reading ℕ
◌bits_at◌of◌from◌to◌else◌ width at bytes least most status =
    reaches bytes (at + width) or_refuse ImageShort then
    (field_at bytes at width is_from least to most) or_refuse status then
    granted (field_at bytes at width)

-- an extent: "real page 28 bits, page count 16, host page 16"
abbrev pub read_extent : List ℕ → ℕ → Extent
read_extent bytes at = record {
  real = field_at bytes at real_page_width;
  count = field_at bytes (at + real_page_width) page_count_width;
  host = field_at bytes (at + (real_page_width + page_count_width)) host_page_width;
}

-- a source: "devhandle 28 bits, devino 7, cookie support 1"; it is disabled, idle and 0, and its target cpu 0
abbrev pub read_source : List ℕ → ℕ → Source
read_source bytes at = record {
  devhandle = field_at bytes at devhandle_width;
  devino = field_at bytes (at + devhandle_width) devino_width;
  cookies = eqb (field_at bytes (at + (devhandle_width + devino_width)) cookie_support_width) 1;
  enabled = 0;
  state = 0;
  target = 0;
  cookie = 0;
}

-- an array of `size` places, of which the first n hold f 0, f 1, .. and the others are blank
unfoldable pub filled : {A : Type 0} → ℕ → A → (ℕ → A) → ℕ → List A
filled size blank f zero = replicate size blank
filled size blank f (suc n) = set (filled size blank f n) n (f n)

-- a guest's lists from bit `at` on, behind its counts: the extents, then the sources
unfoldable pub read_lists : List ℕ → ℕ → ℕ → ℕ → ℕ → Reading Guest
read_lists bytes at cpus extents sources =
    reaches bytes (at + extent_bits * extents + source_bits * sources) or_refuse ImageShort then
    granted
    (record {
      extents = record { extents = extents; extent = filled extent_limit blank_extent (λ i. read_extent bytes (at + extent_bits * i)) extents };
      plant = record {
        versions = no_versions;
        cpus = cpus;
        cpu = replicate cpu_limit blank_cpu;
        sources = sources;
        source = filled source_limit blank_source (λ i. read_source bytes (at + extent_bits * extents + source_bits * i)) sources;
      };
    })

-- guest g: "cpus 4 bits, extents 3 bits, sources 5 bits"; then its lists
unfoldable pub read_guest : List ℕ → ℕ → ℕ → Reading Guest
read_guest bytes g start =
    cpus_width bits_at start of bytes from 1 to cpu_limit else HeaderOrCount g grants λ cpus.
    extents_width bits_at (start + cpus_width) of bytes from 1 to extent_limit else HeaderOrCount g grants λ extents.
    sources_width bits_at (start + (cpus_width + extents_width)) of bytes from 0 to source_limit else HeaderOrCount g grants λ sources.
    read_lists bytes (start + counts_bits) cpus extents sources

-- the bit behind a guest that starts at `at`
abbrev pub behind : ℕ → Guest → ℕ
behind at guest = at + counts_bits + extent_bits * guest.extents.extents + source_bits * guest.plant.sources

-- what has been read: the guests, and the bit behind the last of them
pub record Partition : Type 0 where
  pub guest : List Guest
  pub end : ℕ

-- k more guests from bit `at` on, into the places from i on
unfoldable pub read_guests : List ℕ → ℕ → ℕ → ℕ → List Guest → Reading Partition
read_guests bytes zero at i guest = granted (record { guest = guest; end = at })
read_guests bytes (suc k) at i guest =
    read_guest bytes i at grants λ next.
    read_guests bytes k (behind at next) (i + 1) (set guest i next)

-- "Header: edition 4 bits (1), guests 4 bits (1 to 4)"; "0 for the header"
unfoldable pub read_header : List ℕ → Reading ℕ
read_header bytes =
    edition_width bits_at 0 of bytes from 1 to 1 else HeaderOrCount 0 grants λ edition.
    guests_width bits_at edition_width of bytes from 1 to guest_limit else HeaderOrCount 0

-- what the fields say: the tables, and the bit behind the last field
pub record Fields : Type 0 where
  pub tables : Tables
  pub end : ℕ

-- "Fields are read in order"
unfoldable pub read_fields : List ℕ → Reading Fields
read_fields bytes =
    read_header bytes grants λ guests.
    read_guests bytes guests header_bits 0 (replicate guest_limit blank_guest) grants λ partition.
    granted (record { tables = record { guests = guests; guest = partition.guest }; end = partition.end })

-- "page count at least 1; real page plus count at most 2^28; host page plus count at most 65,536"
unfoldable pub extent_right : Extent → Bool
extent_right x = leb 1 x.count && (leb (x.real + x.count) real_pages && leb (x.host + x.count) host_pages)

abbrev pub right_at : Extents → ℕ → Bool
right_at extents i = extent_right (extent_at extents i)

-- "a guest's extents ascend in real page without overlap": each but the first starts at or past the end of the one before it
unfoldable pub follows : Extents → ℕ → Bool
follows extents i =
    eqb i 0 || leb ((extent_at extents (i - 1)).real + (extent_at extents (i - 1)).count) (extent_at extents i).real

unfoldable pub ascend : Extents → Bool
ascend extents = all_below extents.extents (follows extents)

-- The host's extents in their order, by guest and then position: extent k is extent k % 7 of guest k / 7. So are its sources,
-- by 16. Of either, what is told is "the guest number .. of the first fault" and "the position .. in that guest" (request No. 4).

abbrev pub at_extent : (ℕ → ℕ → ImageRefusal) → ℕ → ImageRefusal
at_extent status k = status (k / extent_limit) (k % extent_limit)

abbrev pub at_source : (ℕ → ℕ → ImageRefusal) → ℕ → ImageRefusal
at_source status k = status (k / source_limit) (k % source_limit)

-- extent i of a guest is there, and it breaks the rule
unfoldable pub breaks : (Extents → ℕ → Bool) → Extents → ℕ → Bool
breaks rule extents i = ltb i extents.extents && not (rule extents i)

-- the first extent that breaks a rule on a guest's extents
unfoldable pub first_breaking : (Extents → ℕ → Bool) → Tables → Option ℕ
first_breaking rule tables =
    first_below (guest_limit * extent_limit) (λ k. breaks rule (guest_at tables (k / extent_limit)).extents (k % extent_limit))

-- run k of the host's runs of pages; one that is absent has no page
unfoldable pub run_at : Tables → ℕ → Extent
run_at tables k = extent_at (guest_at tables (k / extent_limit)).extents (k % extent_limit)

-- a host page is at or past both starts and before both ends
unfoldable pub share : Extent → Extent → Bool
share x y = ltb (max x.host y.host) (min (x.host + x.count) (y.host + y.count))

-- "every run of host pages is compared with every other, and the first pair that shares a page ends the search": of two, "the
-- earliest extent .. that clashes with one before it" (request No. 4)
unfoldable pub shares_before : Tables → Option ℕ
shares_before tables = first_below (guest_limit * extent_limit) (λ j. some_below j (λ i. share (run_at tables i) (run_at tables j)))

abbrev pub pages_shared : Tables → Bool
pages_shared tables = is_found (shares_before tables)

-- source k of the host's: source k % 16 of guest k / 16, where that guest has so many
abbrev pub listed : Tables → ℕ → Bool
listed tables k = ltb (k % source_limit) (plant_at tables (k / source_limit)).sources

abbrev pub listed_at : Tables → ℕ → Source
listed_at tables k = source_at (plant_at tables (k / source_limit)) (k % source_limit)

-- "the same devhandle and devino"
abbrev pub named : Source → ℕ → ℕ → Bool
named s devhandle devino = eqb s.devhandle devhandle && eqb s.devino devino

unfoldable pub twins : Tables → ℕ → ℕ → Bool
twins tables i j = listed tables i && named (listed_at tables i) (listed_at tables j).devhandle (listed_at tables j).devino

-- "no two sources on the host have the same devhandle and devino": one that is there, and one before it
unfoldable pub named_before : Tables → Option ℕ
named_before tables = first_below (guest_limit * source_limit) (λ j. listed tables j && some_below j (λ i. twins tables i j))

abbrev pub source_twice : Tables → Bool
source_twice tables = is_found (named_before tables)

-- "Zero bits fill the last byte", and "nothing behind": the byte that holds the last bit is the last one
unfoldable pub filled_out : List ℕ → ℕ → Bool
filled_out bytes end = eqb (length bytes) ((end + 7) / 8) && eqb (field_at bytes end (8 * length bytes - end)) 0

-- "After the last field the other rules are tried": each over all guests, "112 to 116 in that order" (request No. 4; left out:
-- "all with 111")
unfoldable pub judged : List ℕ → ℕ → Tables → Reading Tables
judged bytes end tables =
    first_breaking right_at tables refuses at_extent ExtentNumbers then
    first_breaking follows tables refuses at_extent ExtentOrder then
    shares_before tables refuses at_extent PagesShared then
    named_before tables refuses at_source SourceTwice then
    filled_out bytes end or_refuse FillOrBehind tables.guests then
    granted tables

-- the whole image
unfoldable pub read_image : List ℕ → Reading Tables
read_image bytes = read_fields bytes grants λ fields. judged bytes fields.end fields.tables

-- an accepted image answers 0; 110 to 116 leave "tables with no guest"
abbrev pub loaded_as : Reading Tables → Loaded
loaded_as (refused r) = record { answer = Err r; tables = no_guests }
loaded_as (granted tables) = record { answer = (Ok tt); tables = tables }

unfoldable pub load : List ℕ → Loaded
load bytes = loaded_as (read_image bytes)
