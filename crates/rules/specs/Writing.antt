-- Writing partition images (request No. 2): "from tables to an image, into a lent buffer, with the length". In the order of "The partition
-- image", and with the widths that its reader has.
use Rattle.std.specs.Prelude.{List, ◌++◌, ℕ, leb, length, drop, if◌then◌else◌, Ok, Err}
use Rattle.rules.specs.Types.{Extent, Source, Guest, Tables, WriteRefusal, Writing}
use Rattle.rules.specs.Scan.{each_below}
use Rattle.rules.specs.Kept.{guest_at, extent_at, source_at}
use Rattle.rules.specs.Bits.{bits_of, packed}
use Rattle.rules.specs.Widths.{edition_width, guests_width, cpus_width, extents_width, sources_width}
use Rattle.rules.specs.Widths.{real_page_width, page_count_width, host_page_width, devhandle_width, devino_width, cookie_support_width}
use Rattle.rules.specs.Tables.{keep_rules}
use Rattle.rules.specs.Rulings.{RulingBy, refused, granted, ◌or_refuse◌then◌}

-- an extent: "real page 28 bits, page count 16, host page 16"
unfoldable pub extent_row : Extent → List ℕ
extent_row x = bits_of real_page_width x.real ++ (bits_of page_count_width x.count ++ bits_of host_page_width x.host)

-- a source: "devhandle 28 bits, devino 7, cookie support 1"; "none of what guests configured"
unfoldable pub source_row : Source → List ℕ
source_row s =
    bits_of devhandle_width s.devhandle
    ++ (bits_of devino_width s.devino ++ bits_of cookie_support_width (if s.cookies then 1 else 0))

-- a guest: "cpus 4 bits, extents 3 bits, sources 5 bits; then its extents, .. then its sources"
unfoldable pub counts_row : Guest → List ℕ
counts_row guest =
    bits_of cpus_width guest.plant.cpus
    ++ (bits_of extents_width guest.extents.extents ++ bits_of sources_width guest.plant.sources)

unfoldable pub guest_row : Guest → List ℕ
guest_row guest =
    counts_row guest
    ++ (each_below guest.extents.extents (λ i. extent_row (extent_at guest.extents i))
    ++ each_below guest.plant.sources (λ i. source_row (source_at guest.plant i)))

-- "Header: edition 4 bits (1), guests 4 bits (1 to 4)"
unfoldable pub header_row : Tables → List ℕ
header_row tables = bits_of edition_width 1 ++ bits_of guests_width tables.guests

-- the whole image: "the fields follow each other without gaps"
unfoldable pub image_row : Tables → List ℕ
image_row tables = header_row tables ++ each_below tables.guests (λ g. guest_row (guest_at tables g))

unfoldable pub image_of : Tables → List ℕ
image_of tables = packed (image_row tables)

-- what a buffer of so many bytes gets. "Refusals, in order: 101, 105 for tables with no guest, 106 for a buffer too short"
unfoldable pub write_rule : Tables → ℕ → RulingBy WriteRefusal (List ℕ)
write_rule tables room =
    keep_rules tables or_refuse WriteRefusal.BadTables then
    leb 1 tables.guests or_refuse WriteRefusal.NoGuest then
    leb (length (image_of tables)) room or_refuse WriteRefusal.ShortBuffer then
    granted (image_of tables)

-- what writing gives
pub record WriteOutcome : Type 0 where
  pub answer : Writing
  pub buffer : List ℕ

-- each refusal "leaves the buffer unchanged"; "bytes past the length stay"
abbrev pub write_outcome : List ℕ → RulingBy WriteRefusal (List ℕ) → WriteOutcome
write_outcome buffer (refused r) = record { answer = Err r; buffer = buffer }
write_outcome buffer (granted image) = record { answer = Ok (length image); buffer = image ++ drop (length image) buffer }

unfoldable pub write_image : Tables → List ℕ → WriteOutcome
write_image tables buffer = write_outcome buffer (write_rule tables (length buffer))
