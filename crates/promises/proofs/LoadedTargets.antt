-- After loading, whatever the image, each source's target is cpu 0 (request No. 7).
use mathlib.Core.Path.{◌≡◌, refl}
use mathlib.Core.List.{List}
use Prim.Native.Nat.{ℕ, zero, suc, ◌+◌, ◌*◌}
use lib.ListN.{get_or, set, replicate}
use Rattle.rules.specs.declared.Guest.{Guest}
use Rattle.rules.specs.declared.ImageRefusal.TheVariants.{ImageShort, ExtentNumbers, ExtentOrder, PagesShared, SourceTwice, FillOrBehind}
use Rattle.rules.specs.declared.Source.{Source}
use Rattle.rules.specs.declared.Tables.{Tables}
use Rattle.rules.specs.Limits.{guest_limit, source_limit}
use Rattle.rules.specs.Kept.{blank_source, blank_guest, hollow_guest, no_guests, source_at}
use Rattle.rules.specs.Bits.{reaches}
use Rattle.rules.specs.Rulings.{refused, granted}
use Rattle.rules.specs.Widths.{header_bits, counts_bits, extent_bits, source_bits}
use Rattle.rules.specs.Image.{Reading, filled, read_source, read_lists, read_guest, Partition, read_guests, behind, read_header, Fields, read_fields, right_at, follows, at_extent, at_source, first_breaking, shares_before, named_before, filled_out, judged, read_image, loaded_as, load}
use Rattle.image.proofs.GuestLaws.{cpus_read, extents_read, sources_read}
use Rattle.kept.proofs.Lists.{set_either}
use Rattle.promises.proofs.Granting.{Granting, by_then, by_scan, by_value, granted_has}

-- what holds of an element and of what stands past the end holds at every place
in_all : {A : Type 0} (P : A → Type 0) (n i : ℕ) (x d : A) → P x → P d → P (get_or (replicate n x) i d)
in_all P zero i x d h e = e
in_all P (suc n) zero x d h e = h
in_all P (suc n) (suc i) x d h e = in_all P n i x d h e

in_filled : {A : Type 0} (P : A → Type 0) (size n i : ℕ) (blank : A) (f : ℕ → A) → P blank → ((k : ℕ) → P (f k)) → P (get_or (filled size blank f n) i blank)
unfolding filled
in_filled P size zero i blank f e h = in_all P size i blank blank e e
in_filled P size (suc n) i blank f e h = set_either P (filled size blank f n) n i (f n) blank (λ _. h n) (in_filled P size n i blank f e h)

-- a source that goes to cpu 0, a guest all of whose sources do, and a list of such guests
abbrev ZeroTarget : Source → Type 0
ZeroTarget s = s.target ≡ 0

abbrev ToZero : Guest → Type 0
ToZero guest = (i : ℕ) → ZeroTarget (source_at guest.plant i)

abbrev AllToZero : List Guest → Type 0
AllToZero l = (g : ℕ) → ToZero (get_or l g hollow_guest)

blank_zero : AllToZero (replicate guest_limit blank_guest)
blank_zero g = in_all ToZero guest_limit g blank_guest hollow_guest (λ i. in_all ZeroTarget source_limit i blank_source blank_source refl refl) (λ i. refl)

guest_zero : (bytes : List ℕ) (n at : ℕ) → Granting ToZero (read_guest bytes n at)
unfolding read_guest read_lists
guest_zero bytes n at =
    by_value ToZero (cpus_read bytes n at) _ (λ cpus _.
    by_value ToZero (extents_read bytes n at) _ (λ extents _.
    by_value ToZero (sources_read bytes n at) _ (λ sources _.
    by_then ToZero (reaches bytes (at + counts_bits + extent_bits * extents + source_bits * sources)) ImageShort _ (λ i.
    in_filled ZeroTarget source_limit sources i blank_source (λ k. read_source bytes (at + counts_bits + extent_bits * extents + source_bits * k)) refl (λ k. refl)))))

abbrev ReadToZero : Partition → Type 0
ReadToZero p = AllToZero p.guest

guests_zero : (bytes : List ℕ) (k at i : ℕ) (guest : List Guest) → AllToZero guest → Granting ReadToZero (read_guests bytes k at i guest)
unfolding read_guests
guests_zero bytes zero at i guest h = h
guests_zero bytes (suc k) at i guest h =
    by_value ReadToZero (read_guest bytes i at) _ (λ next e.
    guests_zero bytes k (behind at next) (i + 1) (set guest i next) (λ g.
    set_either ToZero guest i g next hollow_guest (λ _. granted_has ToZero (read_guest bytes i at) next (guest_zero bytes i at) e) (h g)))

abbrev TablesToZero : Tables → Type 0
TablesToZero tables = AllToZero tables.guest

abbrev FieldsToZero : Fields → Type 0
FieldsToZero fields = TablesToZero fields.tables

fields_zero : (bytes : List ℕ) → Granting FieldsToZero (read_fields bytes)
unfolding read_fields
fields_zero bytes =
    by_value FieldsToZero (read_header bytes) _ (λ guests _.
    let read : Reading Partition = read_guests bytes guests header_bits 0 (replicate guest_limit blank_guest) in
    by_value FieldsToZero read _ (λ p e.
    granted_has ReadToZero read p (guests_zero bytes guests header_bits 0 (replicate guest_limit blank_guest) blank_zero) e))

-- the later rules refuse an image or leave the tables as they were read
judged_zero : (bytes : List ℕ) (end : ℕ) (tables : Tables) → TablesToZero tables → Granting TablesToZero (judged bytes end tables)
unfolding judged
judged_zero bytes end tables h =
    by_scan TablesToZero (first_breaking right_at tables) (at_extent ExtentNumbers) _
    (by_scan TablesToZero (first_breaking follows tables) (at_extent ExtentOrder) _
    (by_scan TablesToZero (shares_before tables) (at_extent PagesShared) _
    (by_scan TablesToZero (named_before tables) (at_source SourceTwice) _
    (by_then TablesToZero (filled_out bytes end) (FillOrBehind tables.guests) (granted tables) h))))

image_zero : (bytes : List ℕ) → Granting TablesToZero (read_image bytes)
unfolding read_image
image_zero bytes =
    by_value TablesToZero (read_fields bytes) _ (λ fields e.
    judged_zero bytes fields.end fields.tables (granted_has FieldsToZero (read_fields bytes) fields (fields_zero bytes) e))

pub loaded_zero : (bytes : List ℕ) → TablesToZero (load bytes).tables
unfolding load no_guests
loaded_zero bytes = go (read_image bytes) (image_zero bytes)
  where
    go : (x : Reading Tables) → Granting TablesToZero x → TablesToZero (loaded_as x).tables
    go (refused r) h = blank_zero
    go (granted tables) h = h
