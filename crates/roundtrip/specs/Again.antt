-- What the round trip of partition images speaks of: bytes, tables as the code holds them, tables as after loading, and two tables
-- that describe the same partition.
use Rattle.std.specs.Prelude.{◌≡◌, List, map, ℕ, ◌^◌, ◌<◌, length, get_or}
use Rattle.rules.specs.declared.Source.{Source}
use Rattle.rules.specs.declared.Guest.{Guest}
use Rattle.rules.specs.declared.Tables.{Tables}
use Rattle.rules.specs.Limits.{guest_limit, cpu_limit, extent_limit, source_limit}
use Rattle.rules.specs.Widths.{page_count_width}
use Rattle.rules.specs.Kept.{blank_cpu, no_versions, guest_at, extent_at, source_at}

-- each element is a byte
abbrev pub Bytes : List ℕ → Type 0
Bytes bytes = (i : ℕ) → i < length bytes → get_or bytes i 0 < 256

-- Tables as the code holds them: the lists have the lengths of its arrays, and a page count has 16 bits, where the rules alone would
-- allow one of 65,536. Every value of the code's type is so.
pub record WholeGuest (guest : Guest) : Type 0 where
  pub extents : length guest.extents.extent ≡ extent_limit
  pub counts : (i : ℕ) → i < extent_limit → (extent_at guest.extents i).count < 2 ^ page_count_width
  pub cpus : length guest.plant.cpu ≡ cpu_limit
  pub sources : length guest.plant.source ≡ source_limit

pub record Whole (tables : Tables) : Type 0 where
  pub guests : length tables.guest ≡ guest_limit
  pub each : (g : ℕ) → g < guest_limit → WholeGuest (guest_at tables g)

-- Tables with every setting as after loading: a source keeps its devhandle, devino and cookie support,
abbrev pub source_as_loaded : Source → Source
source_as_loaded s = record {
  devhandle = s.devhandle;
  devino = s.devino;
  cookies = s.cookies;
  enabled = 0;
  state = 0;
  target = 0;
  cookie = 0;
}

-- a guest keeps its extents, and how many cpus and sources it has,
abbrev pub guest_as_loaded : Guest → Guest
guest_as_loaded guest = record {
  extents = guest.extents;
  plant = record {
    versions = no_versions;
    cpus = guest.plant.cpus;
    cpu = map (λ _. blank_cpu) guest.plant.cpu;
    sources = guest.plant.sources;
    source = map source_as_loaded guest.plant.source;
  };
}

-- and so does each guest.
abbrev pub as_loaded : Tables → Tables
as_loaded tables = record { guests = tables.guests; guest = map guest_as_loaded tables.guest }

-- Two tables describe the same partition: the same guests, and of each the same cpus, extents and sources, whatever was set since.
pub record SameSource (s r : Source) : Type 0 where
  pub devhandle : s.devhandle ≡ r.devhandle
  pub devino : s.devino ≡ r.devino
  pub cookies : s.cookies ≡ r.cookies

pub record SameGuest (g h : Guest) : Type 0 where
  pub cpus : g.plant.cpus ≡ h.plant.cpus
  pub extents : g.extents.extents ≡ h.extents.extents
  pub extent : (i : ℕ) → i < g.extents.extents → extent_at g.extents i ≡ extent_at h.extents i
  pub sources : g.plant.sources ≡ h.plant.sources
  pub source : (i : ℕ) → i < g.plant.sources → SameSource (source_at g.plant i) (source_at h.plant i)

pub record SamePartition (t u : Tables) : Type 0 where
  pub guests : t.guests ≡ u.guests
  pub guest : (g : ℕ) → g < t.guests → SameGuest (guest_at t g) (guest_at u g)
