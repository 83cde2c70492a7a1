-- Not vacuous: images with a fault of each kind, and the place that each tells (request No. 4).
use Rattle.std.proofs.Common.{Ok, Err}
use mathlib.Core.Path.{◌≡◌, refl, sym, ◌∙◌}
use mathlib.Core.List.{List, [], ◌∷◌}
use Prim.Native.Nat.{ℕ}
use native.Mathlib.Omega.{arith}
use lib.ListN.{replicate}
use Rattle.rules.specs.declared.ImageRefusal.TheVariants.{ImageShort, HeaderOrCount, ExtentNumbers, ExtentOrder, PagesShared, SourceTwice, FillOrBehind}
use Rattle.rules.specs.Types.{Loading}
use Rattle.rules.specs.declared.Tables.{Tables}
use Rattle.rules.specs.Limits.{cpu_limit, source_limit}
use Rattle.rules.specs.Kept.{blank_cpu, blank_source, blank_guest, no_versions}
use Rattle.rules.specs.Rulings.{granted}
use Rattle.rules.specs.Image.{read_fields, load}
use Rattle.rules.proofs.Computing.{computing}
use Rattle.rules.proofs.Worked.{run, in_places}
use Rattle.kept.proofs.Accepted.{granted_same}
use Rattle.promises.specs.Places.{First, PagesClash, SharesPages, Tells, Right}
use Rattle.promises.proofs.Places.{places}

-- No byte at all; edition 2; and a guest with no cpu, behind one that is read.
abbrev no_cpu : List ℕ
no_cpu = 0x12 ∷ 0x12 ∷ 0x00 ∷ 0x00 ∷ 0x00 ∷ 0x00 ∷ 0x00 ∷ 0x01 ∷ 0x00 ∷ 0x00 ∷ 0x02 ∷ 0x00 ∷ []

pub early_refused : ((load []).answer ≡ Err ImageShort)
    × ((load (0x21 ∷ [])).answer ≡ Err (HeaderOrCount 0))
    × ((load no_cpu).answer ≡ Err (HeaderOrCount 1))
unfolding computing
early_refused = (refl, refl, refl)

pub early_tells : Tells [] ImageShort × Tells (0x21 ∷ []) (HeaderOrCount 0) × Tells no_cpu (HeaderOrCount 1)
early_tells = (places.refused_tells _ _ early_refused.0, places.refused_tells _ _ early_refused.1, places.refused_tells _ _ early_refused.2)

-- One image with a fault of each kind, which are mended one after another. Guest 0 has two extents, guest 1 has one, and each has a
-- source; what differs stands in these bytes: the second extent's real page and host page, guest 1's page count and devhandle, and
-- the last byte.
abbrev image : ℕ → ℕ → ℕ → ℕ → ℕ → List ℕ
image real host count devhandle last =
    0x12 ∷ 0x14 ∷ 0x10 ∷ 0x00 ∷ 0x00 ∷ 0x04 ∷ 0x00 ∷ 0x01 ∷ 0x00 ∷ 0x00 ∷ 0x00 ∷ 0x00 ∷ 0x00 ∷ real ∷ 0x00 ∷ 0x10 ∷ 0x00 ∷ host
    ∷ 0x00 ∷ 0x01 ∷ 0x00 ∷ 0x0b ∷ 0x12 ∷ 0x10 ∷ 0x00 ∷ 0x00 ∷ 0x00 ∷ 0x00 ∷ count ∷ 0x00 ∷ 0x02 ∷ 0x00 ∷ 0x00 ∷ devhandle ∷ 0x00 ∷ last ∷ []

pub each_refused : ((load (image 0x00 0x00 0x00 0x10 0xb1)).answer ≡ Err (ExtentNumbers 1 0))
    × ((load (image 0x00 0x00 0x01 0x10 0xb1)).answer ≡ Err (ExtentOrder 0 1))
    × ((load (image 0x50 0x00 0x01 0x10 0xb1)).answer ≡ Err (PagesShared 0 1))
    × ((load (image 0x50 0x10 0x01 0x10 0xb1)).answer ≡ Err (SourceTwice 1 0))
    × ((load (image 0x50 0x10 0x01 0x20 0xb1)).answer ≡ Err (FillOrBehind 2))
    × ((load (image 0x50 0x10 0x01 0x20 0xb0)).answer ≡ (Ok tt))
unfolding computing
each_refused = (refl, refl, refl, refl, refl, refl)

-- So each of them tells its place.
pub each_tells : Tells (image 0x00 0x00 0x00 0x10 0xb1) (ExtentNumbers 1 0)
    × Tells (image 0x00 0x00 0x01 0x10 0xb1) (ExtentOrder 0 1)
    × Tells (image 0x50 0x00 0x01 0x10 0xb1) (PagesShared 0 1)
    × Tells (image 0x50 0x10 0x01 0x10 0xb1) (SourceTwice 1 0)
    × Tells (image 0x50 0x10 0x01 0x20 0xb1) (FillOrBehind 2)
each_tells =
    (places.refused_tells _ _ each_refused.0, places.refused_tells _ _ each_refused.1, places.refused_tells _ _ each_refused.2, places.refused_tells _ _ each_refused.3, places.refused_tells _ _ each_refused.4)

-- And the one that is mended is right.
pub mended_right : Right (image 0x50 0x10 0x01 0x20 0xb0) (load (image 0x50 0x10 0x01 0x20 0xb0)).tables
mended_right = places.accepted_right _ each_refused.5

-- Two pairs that share a page: four extents of a page each, on host pages 0, 1, 1 and 0.
abbrev two_pairs : List ℕ
two_pairs =
    0x11 ∷ 0x18 ∷ 0x00 ∷ 0x00 ∷ 0x00 ∷ 0x00 ∷ 0x00 ∷ 0x01 ∷ 0x00 ∷ 0x00 ∷ 0x00 ∷ 0x00 ∷ 0x00 ∷ 0x20 ∷ 0x00 ∷ 0x10 ∷ 0x00
    ∷ 0x10 ∷ 0x00 ∷ 0x00 ∷ 0x04 ∷ 0x00 ∷ 0x01 ∷ 0x00 ∷ 0x01 ∷ 0x00 ∷ 0x00 ∷ 0x00 ∷ 0x60 ∷ 0x00 ∷ 0x10 ∷ 0x00 ∷ 0x00 ∷ []

-- what its fields say
abbrev pairs : Tables
pairs = record {
  guests = 1;
  guest =
      record {
        extents = record { extents = 4; extent = in_places (run 0 1 0 ∷ run 2 1 1 ∷ run 4 1 1 ∷ run 6 1 0 ∷ []) };
        plant = record { versions = no_versions; cpus = 1; cpu = replicate cpu_limit blank_cpu; sources = 0; source = replicate source_limit blank_source };
      }
      ∷ blank_guest ∷ blank_guest ∷ blank_guest ∷ [];
}

pub pairs_read : read_fields two_pairs ≡ granted (record { tables = pairs; end = 260 })
unfolding computing
pairs_read = refl

-- Extents 1 and 2 have page 1 in common, and 0 and 3 have page 0.
pub both_clash : PagesClash pairs 0 1 0 2 × PagesClash pairs 0 0 0 3
both_clash = (
  record { earlier = (omega arith, omega arith); later = (omega arith, omega arith); page = 1; of_earlier = (omega arith, omega arith); of_later = (omega arith, omega arith) },
  record { earlier = (omega arith, omega arith); later = (omega arith, omega arith); page = 0; of_earlier = (omega arith, omega arith); of_later = (omega arith, omega arith) },
)

-- What is told is extent 2: the first that clashes with one before it, and not the one that clashes with the first.
pub pairs_refused : (load two_pairs).answer ≡ Err (PagesShared 0 2)
unfolding computing
pairs_refused = refl

pub pairs_first : First (SharesPages pairs) 0 2
pairs_first =
    let told = places.refused_tells two_pairs (PagesShared 0 2) pairs_refused in
    let same : told.fields ≡ record { tables = pairs; end = 260 } = granted_same told.fields (record { tables = pairs; end = 260 }) (sym told.read ∙ pairs_read) in
    rw same at told.holds.2
