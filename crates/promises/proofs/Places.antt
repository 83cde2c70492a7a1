-- Promise: the place that a refused image answers is that of the first fault of its kind (request No. 4).
use Rattle.std.proofs.Common.{Option, Some, None, Ok, Err}
use mathlib.Core.Path.{◌≡◌, refl, ap}
use mathlib.Core.Bool.{true}
use mathlib.Core.List.{List}
use mathlib.Core.Logic.{◌⊎◌, inl, inr}
use Prim.Native.Nat.{ℕ, zero, suc, ◌+◌, ◌*◌, ◌<◌}
use native.Mathlib.Omega.{arith}
use lib.ListN.{set, replicate}
use Rattle.rules.specs.declared.Guest.{Guest}
use Rattle.rules.specs.declared.ImageRefusal.{ImageRefusal}
use Rattle.rules.specs.declared.ImageRefusal.TheVariants.{ImageShort, HeaderOrCount, ExtentNumbers, ExtentOrder, PagesShared, SourceTwice, FillOrBehind}
use Rattle.rules.specs.Types.{Loading}
use Rattle.rules.specs.declared.Tables.{Tables}
use Rattle.rules.specs.Limits.{guest_limit}
use Rattle.rules.specs.Scan.{◌is_from◌to◌}
use Rattle.rules.specs.Kept.{blank_guest}
use Rattle.rules.specs.Bits.{field_at, reaches}
use Rattle.rules.specs.Rulings.{refused, granted, ◌grants◌}
use Rattle.rules.specs.Widths.{edition_width, guests_width, header_bits, cpus_width, extents_width, sources_width, counts_bits, extent_bits, source_bits}
use Rattle.rules.specs.Image.{Reading, ◌bits_at◌of◌from◌to◌else◌, read_lists, read_guest, Partition, read_guests, behind, read_header, Fields, read_fields, right_at, follows, at_extent, at_source, first_breaking, shares_before, named_before, filled_out, judged, read_image, loaded_as, load}
use Rattle.image.proofs.GuestLaws.{cpus_read, extents_read, sources_read}
use Rattle.image.proofs.FieldsLaws.{edition_read, guests_read}
use Rattle.kept.proofs.Accepted.{AsRead, fields_as_read}
use Rattle.promises.specs.Places.{HeaderFault, CountFault, Faultless, FieldsGive, Unread, Tells, Right}
use Rattle.promises.specs.Promises.{Places}
use Rattle.promises.proofs.Ruled.{Ruled, Any, ruled_then, ruled_scan, ruled_value}
use Rattle.promises.proofs.Faults.{numbers_first, numbers_none, order_first, order_none, pages_first, pages_none, names_first, names_none}

-- The fields are refused by 110, and by 111 where C holds of its guest number.
abbrev Early : (ℕ → Type 0) → ImageRefusal → Type 0
Early C ImageShort = Unit {0}
Early C (HeaderOrCount g) = C g
Early C (ExtentNumbers g i) = ⊥
Early C (ExtentOrder g i) = ⊥
Early C (PagesShared g i) = ⊥
Early C (SourceTwice g i) = ⊥
Early C (FillOrBehind n) = ⊥

early_so : (C D : ℕ → Type 0) (r : ImageRefusal) → ((g : ℕ) → r ≡ HeaderOrCount g → C g → D g) → Early C r → Early D r
early_so C D ImageShort f h = tt
early_so C D (HeaderOrCount g) f h = f g refl h
early_so C D (ExtentNumbers g i) f h = h
early_so C D (ExtentOrder g i) f h = h
early_so C D (PagesShared g i) f h = h
early_so C D (SourceTwice g i) f h = h
early_so C D (FillOrBehind n) f h = h

-- of what a reading refuses by; there is nothing to show of what it grants
abbrev Refusing : {A : Type 0} → (ImageRefusal → Type 0) → Reading A → Type 0
Refusing P x = Ruled P Any x

refused_so : {A : Type 0} (C D : ℕ → Type 0) (x : Reading A) → ((g : ℕ) → x ≡ refused (HeaderOrCount g) → C g → D g) → Refusing (Early C) x → Refusing (Early D) x
refused_so C D (refused r) f h = early_so C D r (λ g q. f g (ap refused q)) h
refused_so C D (granted a) f h = tt

-- the header's refusals tell 0, and a guest's tell its own number
abbrev Own : ℕ → ℕ → Type 0
Own n g = g ≡ n

count_own : (bytes : List ℕ) (n at least most g : ℕ) → Refusing (Early (Own g)) (n bits_at at of bytes from least to most else HeaderOrCount g)
unfolding ◌bits_at◌of◌from◌to◌else◌
count_own bytes n at least most g =
    ruled_then (Early (Own g)) Any (reaches bytes (at + n)) ImageShort _ (λ _. tt) (λ _.
    ruled_then (Early (Own g)) Any (field_at bytes at n is_from least to most) (HeaderOrCount g) (granted (field_at bytes at n)) (λ _. refl) (λ _. tt))

header_own : (bytes : List ℕ) → Refusing (Early (Own 0)) (read_header bytes)
unfolding read_header
header_own bytes =
    ruled_value (Early (Own 0)) Any (edition_read bytes) (λ _. guests_read bytes) (count_own bytes edition_width 0 1 1 0) (λ _ _.
    count_own bytes guests_width edition_width 1 guest_limit 0)

guest_own : (bytes : List ℕ) (g at : ℕ) → Refusing (Early (Own g)) (read_guest bytes g at)
unfolding read_guest read_lists
guest_own bytes g at =
    ruled_value (Early (Own g)) Any (cpus_read bytes g at) _ (count_own bytes cpus_width at 1 _ g) (λ cpus _.
    ruled_value (Early (Own g)) Any (extents_read bytes g at) _ (count_own bytes extents_width (at + cpus_width) 1 _ g) (λ extents _.
    ruled_value (Early (Own g)) Any (sources_read bytes g at) _ (count_own bytes sources_width (at + (cpus_width + extents_width)) 0 _ g) (λ sources _.
    ruled_then (Early (Own g)) Any (reaches bytes (at + counts_bits + extent_bits * extents + source_bits * sources)) ImageShort _ (λ _. tt) (λ _. tt))))

-- of k more guests, some are read, and the next is guest g, which is refused
record Reached (bytes : List ℕ) (k at i : ℕ) (guest : List Guest) (g : ℕ) : Type 0 where
  some : ℕ
  fewer : some < k
  number : g ≡ i + some
  before : Partition
  read : read_guests bytes some at i guest ≡ granted before
  fault : read_guest bytes g before.end ≡ refused (HeaderOrCount g)

guests_reached : (bytes : List ℕ) (k at i : ℕ) (guest : List Guest) → Refusing (Early (Reached bytes k at i guest)) (read_guests bytes k at i guest)
unfolding read_guests
guests_reached bytes zero at i guest = tt
guests_reached bytes (suc k) at i guest =
    ruled_value (Early (Reached bytes (suc k) at i guest)) Any (read_guest bytes i at) _
    (refused_so (Own i) (Reached bytes (suc k) at i guest) (read_guest bytes i at) (λ g e q. record {
      some = 0;
      fewer = omega arith;
      number = omega arith;
      before = record { guest = guest; end = at };
      read = refl;
      fault = rw q (rw q at e);
    }) (guest_own bytes i at))
    (λ next e. refused_so (Reached bytes k (behind at next) (i + 1) (set guest i next)) (Reached bytes (suc k) at i guest) (read_guests bytes k (behind at next) (i + 1) (set guest i next)) (λ g _ c. record {
      some = suc c.some;
      fewer = omega (arith, c.fewer);
      number = omega (arith, c.number);
      before = c.before;
      read = rw e c.read;
      fault = c.fault;
    }) (guests_reached bytes k (behind at next) (i + 1) (set guest i next)))

abbrev Counts : List ℕ → ℕ → Type 0
Counts bytes g = HeaderFault bytes g ⊎ CountFault bytes g

fields_early : (bytes : List ℕ) → Refusing (Early (Counts bytes)) (read_fields bytes)
unfolding read_fields
fields_early bytes =
    ruled_value (Early (Counts bytes)) Any (read_header bytes) _
    (refused_so (Own 0) (Counts bytes) (read_header bytes) (λ g e q. inl (rw q at e, q)) (header_own bytes))
    (λ guests h.
    ruled_value (Early (Counts bytes)) Any (read_guests bytes guests header_bits 0 (replicate guest_limit blank_guest)) _
    (refused_so (Reached bytes guests header_bits 0 (replicate guest_limit blank_guest)) (Counts bytes) (read_guests bytes guests header_bits 0 (replicate guest_limit blank_guest)) (λ g _ c.
    let q : c.some ≡ g = omega (arith, c.number) in
    inr (record {
      guests = guests;
      header = h;
      there = omega (arith, c.fewer);
      before = c.before;
      read = rw q at c.read;
      fault = c.fault;
    })) (guests_reached bytes guests header_bits 0 (replicate guest_limit blank_guest)))
    (λ partition _. tt))

-- a scan that finds nothing at any place
none_found : (found : Option ℕ) → ((k : ℕ) → found ≡ Some k → ⊥) → found ≡ None
none_found None h = refl
none_found (Some k) h = absurd (h k refl)

module _ (bytes : List ℕ) where
  -- an image whose fields are refused
  refused_unread : (r : ImageRefusal) → read_fields bytes ≡ refused r → Unread bytes
  refused_unread r e fields q = let z : ◌≡◌ {A = ℕ} 0 1 = cc in omega arith

  early_tells : (r : ImageRefusal) → read_fields bytes ≡ refused r → Early (Counts bytes) r → Tells bytes r
  early_tells ImageShort e h = refused_unread ImageShort e
  early_tells (HeaderOrCount g) e h = h
  early_tells (ExtentNumbers g i) e h = absurd h
  early_tells (ExtentOrder g i) e h = absurd h
  early_tells (PagesShared g i) e h = absurd h
  early_tells (SourceTwice g i) e h = absurd h
  early_tells (FillOrBehind n) e h = absurd h

  -- one whose fields are read: each rule that is passed finds no fault
  module _ (fields : Fields) (e : read_fields bytes ≡ granted fields) where
    abbrev t : Tables
    t = fields.tables

    a : AsRead t
    a = fields_as_read bytes fields e

    gives : (Holds : Tables → ℕ → Type 0) → Holds t fields.end → FieldsGive bytes Holds
    gives Holds h = record { fields = fields; read = e; holds = h }

    judged_tells : Ruled (Tells bytes) (Right bytes) (judged bytes fields.end t)
    unfolding judged
    judged_tells =
        ruled_scan (Tells bytes) (Right bytes) (first_breaking right_at t) (at_extent ExtentNumbers) _ (λ k f. gives _ (numbers_first t a k f)) (λ x.
        let numbers = numbers_none t a x in
        ruled_scan (Tells bytes) (Right bytes) (first_breaking follows t) (at_extent ExtentOrder) _ (λ k f. gives _ (numbers, order_first t a k f)) (λ y.
        let order = order_none t a y in
        ruled_scan (Tells bytes) (Right bytes) (shares_before t) (at_extent PagesShared) _ (λ k f. gives _ (numbers, order, pages_first t a k f)) (λ z.
        let pages = pages_none t a z in
        ruled_scan (Tells bytes) (Right bytes) (named_before t) (at_source SourceTwice) _ (λ k f. gives _ (numbers, order, pages, names_first t a k f)) (λ w.
        let faultless : Faultless t = (numbers, order, pages, names_none t a w) in
        ruled_then (Tells bytes) (Right bytes) (filled_out bytes fields.end) (FillOrBehind t.guests) (granted t) (λ u. gives _ (faultless, u, refl)) (λ u. gives _ (faultless, u, refl))))))

    -- and where there is none, each rule is passed
    passed : Faultless t → filled_out bytes fields.end ≡ true → judged bytes fields.end t ≡ granted t
    unfolding judged
    passed h filled =
        let numbers = none_found (first_breaking right_at t) (λ k f. h.0 _ _ (numbers_first t a k f).fault) in
        let order = none_found (first_breaking follows t) (λ k f. h.1 _ _ (order_first t a k f).fault) in
        let pages = none_found (shares_before t) (λ k f. h.2 _ _ (pages_first t a k f).fault) in
        let names = none_found (named_before t) (λ k f. h.3 _ _ (names_first t a k f).fault) in
        rw (numbers, order, pages, names, filled)

  image_tells : Ruled (Tells bytes) (Right bytes) (read_image bytes)
  unfolding read_image
  image_tells = go (read_fields bytes) refl (fields_early bytes)
    where
      go : (x : Reading Fields) → read_fields bytes ≡ x → Refusing (Early (Counts bytes)) x → Ruled (Tells bytes) (Right bytes) (x grants λ fields. judged bytes fields.end fields.tables)
      go (refused r) e h = early_tells r e h
      go (granted fields) e h = judged_tells fields e

  refused_told : (r : ImageRefusal) → (load bytes).answer ≡ Err r → Tells bytes r
  unfolding load
  refused_told r e = go (read_image bytes) e image_tells
    where
      go : (x : Reading Tables) → (loaded_as x).answer ≡ Err r → Ruled (Tells bytes) (Right bytes) x → Tells bytes r
      go (refused s) q h = let z : s ≡ r = cc in rw (← z) h
      go (granted tables) q h = absurd (let z : ◌≡◌ {A = ℕ} 0 1 = cc in omega arith)

  accepted_told : (load bytes).answer ≡ (Ok tt) → Right bytes (load bytes).tables
  unfolding load
  accepted_told e = go (read_image bytes) e image_tells
    where
      go : (x : Reading Tables) → (loaded_as x).answer ≡ (Ok tt) → Ruled (Tells bytes) (Right bytes) x → Right bytes (loaded_as x).tables
      go (refused s) q h = absurd (let z : ◌≡◌ {A = ℕ} 0 1 = cc in omega arith)
      go (granted tables) q h = h

  right_loaded : (tables : Tables) → Right bytes tables → load bytes ≡ record { answer = (Ok tt); tables = tables }
  unfolding load read_image
  right_loaded tables g = rw (g.read, passed g.fields g.read g.holds.0 g.holds.1, g.holds.2)

pub places : Places
places = record {
  refused_tells = refused_told;
  accepted_right = accepted_told;
  right_accepted = right_loaded;
}
