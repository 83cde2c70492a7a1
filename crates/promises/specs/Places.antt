-- What the place that a refused image answers means (request No. 4): for 112 to 115 it is said of pages and names, and of no scan.
use Rattle.std.specs.Prelude.{◌≡◌, true, false, List, ◌⊎◌, ℕ, ◌+◌, ◌≤◌, ◌<◌, replicate}
use Rattle.rules.specs.declared.Extent.{Extent}
use Rattle.rules.specs.declared.ImageRefusal.{ImageRefusal}
use Rattle.rules.specs.declared.ImageRefusal.TheVariants.{ImageShort, HeaderOrCount, ExtentNumbers, ExtentOrder, PagesShared, SourceTwice, FillOrBehind}
use Rattle.rules.specs.declared.Source.{Source}
use Rattle.rules.specs.declared.Tables.{Tables}
use Rattle.rules.specs.Limits.{guest_limit}
use Rattle.rules.specs.Kept.{blank_guest, guest_at, plant_at, extent_at, source_at}
use Rattle.rules.specs.Rulings.{refused, granted}
use Rattle.rules.specs.Widths.{header_bits}
use Rattle.rules.specs.Image.{read_guest, Partition, read_guests, read_header, Fields, read_fields, extent_right, filled_out}

-- A place is a guest number and a position in that guest. Place (f, j) comes before place (g, i): by guest, and then by position.
abbrev pub Before : ℕ → ℕ → ℕ → ℕ → Type 0
Before f j g i = (f < g) ⊎ ((f ≡ g) × (j < i))

-- "the first fault": there is one at (g, i), and none at a place before it
pub record First (Fault : ℕ → ℕ → Type 0) (g i : ℕ) : Type 0 where
  pub fault : Fault g i
  pub none_before : (f j : ℕ) → Before f j g i → Fault f j → ⊥

-- there is no such fault
abbrev pub Nowhere : (ℕ → ℕ → Type 0) → Type 0
Nowhere Fault = (g i : ℕ) → Fault g i → ⊥

-- what stands at (g, i) "clashes with one before it"
pub record Clashes (Clash : ℕ → ℕ → ℕ → ℕ → Type 0) (g i : ℕ) : Type 0 where
  pub guest : ℕ
  pub position : ℕ
  pub before : Before guest position g i
  pub clash : Clash guest position g i

-- extent i of guest g, and that it is there; so for its sources
abbrev pub extent_of : Tables → ℕ → ℕ → Extent
extent_of tables g i = extent_at (guest_at tables g).extents i

abbrev pub HasExtent : Tables → ℕ → ℕ → Type 0
HasExtent tables g i = (g < tables.guests) × (i < (guest_at tables g).extents.extents)

abbrev pub source_of : Tables → ℕ → ℕ → Source
source_of tables g i = source_at (plant_at tables g) i

abbrev pub HasSource : Tables → ℕ → ℕ → Type 0
HasSource tables g i = (g < tables.guests) × (i < (plant_at tables g).sources)

-- 111, "0 for the header": the header is refused, and the guest number is 0;
abbrev pub HeaderFault : List ℕ → ℕ → Type 0
HeaderFault bytes g = (read_header bytes ≡ refused (HeaderOrCount 0)) × (g ≡ 0)

-- or it is read, and so are the guests before guest g, and a count of guest g is refused
pub record CountFault (bytes : List ℕ) (g : ℕ) : Type 0 where
  pub guests : ℕ
  pub header : read_header bytes ≡ granted guests
  pub there : g < guests
  pub before : Partition
  pub read : read_guests bytes g header_bits 0 (replicate guest_limit blank_guest) ≡ granted before
  pub fault : read_guest bytes g before.end ≡ refused (HeaderOrCount g)

-- 112: an extent that is there has numbers that are not right
pub record WrongNumbers (tables : Tables) (g i : ℕ) : Type 0 where
  pub there : HasExtent tables g i
  pub wrong : extent_right (extent_of tables g i) ≡ false

-- 113: two extents of one guest, of which the later starts before the end of the earlier
pub record OrderClash (tables : Tables) (f j g i : ℕ) : Type 0 where
  pub earlier : HasExtent tables f j
  pub later : HasExtent tables g i
  pub one_guest : f ≡ g
  pub starts_before : (extent_of tables g i).real < (extent_of tables f j).real + (extent_of tables f j).count

-- 114: two extents that have a host page in common
abbrev pub HasPage : Extent → ℕ → Type 0
HasPage x page = (x.host ≤ page) × (page < x.host + x.count)

pub record PagesClash (tables : Tables) (f j g i : ℕ) : Type 0 where
  pub earlier : HasExtent tables f j
  pub later : HasExtent tables g i
  pub page : ℕ
  pub of_earlier : HasPage (extent_of tables f j) page
  pub of_later : HasPage (extent_of tables g i) page

-- 115: two sources that have the same devhandle and devino
pub record NamesClash (tables : Tables) (f j g i : ℕ) : Type 0 where
  pub earlier : HasSource tables f j
  pub later : HasSource tables g i
  pub same_devhandle : (source_of tables f j).devhandle ≡ (source_of tables g i).devhandle
  pub same_devino : (source_of tables f j).devino ≡ (source_of tables g i).devino

-- a fault of each kind but the first, by the place of the later extent or source
abbrev pub OutOfOrder : Tables → ℕ → ℕ → Type 0
OutOfOrder tables = Clashes (OrderClash tables)

abbrev pub SharesPages : Tables → ℕ → ℕ → Type 0
SharesPages tables = Clashes (PagesClash tables)

abbrev pub NamedAgain : Tables → ℕ → ℕ → Type 0
NamedAgain tables = Clashes (NamesClash tables)

-- there is none of any of the four kinds
abbrev pub Faultless : Tables → Type 0
Faultless tables = Nowhere (WrongNumbers tables) × Nowhere (OutOfOrder tables) × Nowhere (SharesPages tables) × Nowhere (NamedAgain tables)

-- the image's fields were read up to the last, and this holds of the tables that they give, and of the bit behind the last field
pub record FieldsGive (bytes : List ℕ) (Holds : Tables → ℕ → Type 0) : Type 0 where
  pub fields : Fields
  pub read : read_fields bytes ≡ granted fields
  pub holds : Holds fields.tables fields.end

-- they were not
abbrev pub Unread : List ℕ → Type 0
Unread bytes = (fields : Fields) → read_fields bytes ≡ granted fields → ⊥

-- an image is right, and these are its tables: the fields are read, there is no fault in what they say, the fill is zero and nothing
-- stands behind
abbrev pub Right : List ℕ → Tables → Type 0
Right bytes tables = FieldsGive bytes (λ t end. Faultless t × (filled_out bytes end ≡ true) × (t ≡ tables))

-- what a refusal of an image tells: 110 that the fields were not all read, and 111 where they were refused; "112 to 116 in that
-- order after the last field" the place of the first fault of its kind, and that there is none of the kinds before it; 116 that fill
-- bits are set or bytes stand behind, and "the guest count"
abbrev pub Tells : List ℕ → ImageRefusal → Type 0
Tells bytes ImageShort = Unread bytes
Tells bytes (HeaderOrCount g) = HeaderFault bytes g ⊎ CountFault bytes g
Tells bytes (ExtentNumbers g i) = FieldsGive bytes (λ t _. First (WrongNumbers t) g i)
Tells bytes (ExtentOrder g i) = FieldsGive bytes (λ t _. Nowhere (WrongNumbers t) × First (OutOfOrder t) g i)
Tells bytes (PagesShared g i) = FieldsGive bytes (λ t _. Nowhere (WrongNumbers t) × Nowhere (OutOfOrder t) × First (SharesPages t) g i)
Tells bytes (SourceTwice g i) = FieldsGive bytes (λ t _. Nowhere (WrongNumbers t) × Nowhere (OutOfOrder t) × Nowhere (SharesPages t) × First (NamedAgain t) g i)
Tells bytes (FillOrBehind n) = FieldsGive bytes (λ t end. Faultless t × (filled_out bytes end ≡ false) × (n ≡ t.guests))
