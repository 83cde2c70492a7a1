-- Tables that keep the rules are written as an image that is accepted, and that gives them as after loading: each row that is written
-- stands in the bytes where the reader looks for it.
use Rattle.std.specs.Prelude.{if◌then◌else◌, Ok}
use mathlib.Core.Path.{◌≡◌, refl, sym, ap, ◌∙◌}
use mathlib.Core.Bool.{Bool, true, false}
use mathlib.Core.Logic.{⊎_elim}
use mathlib.Core.List.{List, [], ◌∷◌, ◌++◌, map}
use Prim.Native.Nat.{ℕ, zero, suc, ◌+◌, ◌-◌, ◌*◌, ◌/◌, ◌^◌, ◌<◌, ◌≤◌}
use native.Mathlib.Nat.{zero-add}
use native.Mathlib.Numerals.{add-one}
use native.Mathlib.Omega.{arith}
use lib.Dec.{leb, eqb}
use lib.ListN.{length, get_or, replicate, length-append, length-map}
use lib.Seq.{ext_get_or}
use borrow.Author.Tests.{leb-true, le-leb, eq-eqb}
use Rattle.rules.specs.declared.Cpu.{Cpu}
use Rattle.rules.specs.declared.Extent.{Extent}
use Rattle.rules.specs.declared.Guest.{Guest}
use Rattle.rules.specs.declared.ImageRefusal.{ImageRefusal}
use Rattle.rules.specs.declared.ImageRefusal.TheVariants.{HeaderOrCount}
use Rattle.rules.specs.declared.Loaded.{Loaded}
use Rattle.rules.specs.declared.Source.{Source}
use Rattle.rules.specs.declared.Tables.{Tables}
use Rattle.rules.specs.Limits.{guest_limit, cpu_limit, extent_limit, source_limit, real_pages, host_pages, devhandles, devinos}
use Rattle.rules.specs.Scan.{each_below}
use Rattle.rules.specs.Kept.{blank_extent, blank_cpu, blank_source, blank_guest, hollow_guest, no_versions, guest_at, extent_at, source_at}
use Rattle.rules.specs.Bits.{field_at, bits_of}
use Rattle.rules.specs.Rulings.{granted}
use Rattle.rules.specs.Widths.{edition_width, guests_width, header_bits, cpus_width, extents_width, sources_width, counts_bits}
use Rattle.rules.specs.Widths.{real_page_width, page_count_width, host_page_width, extent_bits, devhandle_width, devino_width, cookie_support_width, source_bits}
use Rattle.rules.specs.Image.{◌bits_at◌of◌from◌to◌else◌, read_extent, read_source, filled, read_lists, read_guest, behind, read_guests, read_header, read_fields, extent_right, filled_out, judged, read_image, load}
use Rattle.rules.specs.Writing.{extent_row, source_row, counts_row, guest_row, header_row, image_row, image_of}
use Rattle.rules.specs.Tables.{keep_rules}
use Rattle.rules.proofs.Tests.{and_left, and_right, lt_or_ge}
use Rattle.partition.proofs.Filled.{fill_at, fill_length, fill_next}
use Rattle.kept.proofs.Accepted.{fill_past}
use Rattle.tables.proofs.SoundTables.{guests_few}
use Rattle.bits.proofs.PutLaws.{bits_length}
use Rattle.writer.proofs.PackLaws.{packed_length}
use Rattle.writer.proofs.RowLaws.{extent_length, source_length, counts_length, header_length, each_length, guest_length, image_length}
use Rattle.roundtrip.specs.Again.{WholeGuest, Whole, source_as_loaded, guest_as_loaded, as_loaded, SamePartition}
use Rattle.roundtrip.proofs.BitLaws.{Bits, bits_append, bits_digits, bits_each, Stands, packed_fill, packed_stands, stands_parts, stands_each, stands_one, stands_field, three, three_bits, three_stand}
use Rattle.roundtrip.proofs.Rules.{Behind, There, Absent, loaded_at, loaded_source, guest_there, guest_absent, guest_behind, numbers_right, order_right, pages_right, names_right}

-- The rows are bits, of the widths that the reader knows.

extent_bits_lem : (x : Extent) → Bits (extent_row x)
unfolding extent_row
extent_bits_lem x = three_bits real_page_width page_count_width host_page_width x.real x.count x.host

source_bits_lem : (s : Source) → Bits (source_row s)
unfolding source_row
source_bits_lem s = three_bits devhandle_width devino_width cookie_support_width s.devhandle s.devino (if s.cookies then 1 else 0)

module _ (guest : Guest) where
  abbrev extent_count : ℕ
  extent_count = guest.extents.extents

  abbrev source_count : ℕ
  source_count = guest.plant.sources

  abbrev extent_rows : ℕ → List ℕ
  extent_rows i = extent_row (extent_at guest.extents i)

  abbrev source_rows : ℕ → List ℕ
  source_rows i = source_row (source_at guest.plant i)

  guest_bits_lem : Bits (guest_row guest)
  unfolding guest_row counts_row
  guest_bits_lem =
      bits_append (three cpus_width extents_width sources_width guest.plant.cpus extent_count source_count) (each_below extent_count extent_rows ++ each_below source_count source_rows)
      (three_bits cpus_width extents_width sources_width guest.plant.cpus extent_count source_count)
      (bits_append (each_below extent_count extent_rows) (each_below source_count source_rows)
      (bits_each extent_rows extent_count (λ i. extent_bits_lem (extent_at guest.extents i))) (bits_each source_rows source_count (λ i. source_bits_lem (source_at guest.plant i))))

-- An extent and a source that stand in bytes are read.

extent_numbers : (x : Extent) → extent_right x ≡ true → (x.real < real_pages) × (x.host < host_pages)
unfolding extent_right
extent_numbers x e =
    let least : 1 ≤ x.count = leb-true _ _ (and_left (leb 1 x.count) _ e) in
    let ends = and_right (leb 1 x.count) _ e in
    let real : x.real + x.count ≤ real_pages = leb-true _ _ (and_left (leb (x.real + x.count) real_pages) _ ends) in
    let host : x.host + x.count ≤ host_pages = leb-true _ _ (and_right (leb (x.real + x.count) real_pages) _ ends) in
    (omega arith, omega arith)

extent_read : (s : List ℕ) (at : ℕ) (x : Extent) → Stands s at (extent_row x) → extent_right x ≡ true → x.count < 2 ^ page_count_width → read_extent s at ≡ x
unfolding extent_row
extent_read s at x t r c =
    let m = extent_numbers x r in
    let f = three_stand real_page_width page_count_width host_page_width x.real x.count x.host s at m.0 c m.1 t in
    λ i. record { real = f.1 i; count = f.2 i; host = f.3 i }

flag_small : (b : Bool) → (if b then 1 else 0) < 2
flag_small true = omega arith
flag_small false = omega arith

flag_read : (b : Bool) → eqb (if b then 1 else 0) 1 ≡ b
flag_read true = refl
flag_read false = refl

source_read : (s : List ℕ) (at : ℕ) (x : Source) → Stands s at (source_row x) → x.devhandle < devhandles → x.devino < devinos → read_source s at ≡ source_as_loaded x
unfolding source_row
source_read s at x t h d =
    let f = three_stand devhandle_width devino_width cookie_support_width x.devhandle x.devino (if x.cookies then 1 else 0) s at h d (flag_small x.cookies) t in
    let c = ap (λ (v : ℕ). eqb v 1) f.3 ∙ flag_read x.cookies in
    λ i. record { devhandle = f.1 i; devino = f.2 i; cookies = c i; enabled = 0; state = 0; target = 0; cookie = 0 }

-- A list whose first n elements are f 0, f 1, .. and the others blank is an array that is filled so.

module _ {A : Type 0} (size : ℕ) (blank : A) (f : ℕ → A) where
  fill_is : (n : ℕ) (l : List A) → length l ≡ size → n ≤ size → ((i : ℕ) → i < n → f i ≡ get_or l i blank) → ((i : ℕ) → n ≤ i → i < size → get_or l i blank ≡ blank) → filled size blank f n ≡ l
  fill_is n l m k below past =
      ext_get_or blank (filled size blank f n) l (fill_length size blank f n ∙ sym m) (λ i h.
      ⊎_elim
      (λ u. fill_at size blank f i n u k ∙ below i u)
      (λ u. fill_past size blank f n i u ∙ sym (past i u (omega (arith, fill_length size blank f n))))
      (lt_or_ge i n))

default_same : {A : Type 0} (l : List A) (i : ℕ) (c d : A) → i < length l → get_or l i c ≡ get_or l i d
default_same [] i c d h = absurd (omega arith)
default_same (x ∷ l) zero c d h = refl
default_same (x ∷ l) (suc i) c d h = default_same l i c d (omega arith)

all_blank : (l : List Cpu) → replicate (length l) blank_cpu ≡ map (λ _. blank_cpu) l
all_blank [] = refl
all_blank (x ∷ l) = rw (all_blank l)

-- So is a guest.

abbrev read_as : Guest → (ℕ → Extent) → (ℕ → Source) → Guest
read_as guest f g = record {
  extents = record { extents = guest.extents.extents; extent = filled extent_limit blank_extent f guest.extents.extents };
  plant = record {
    versions = no_versions;
    cpus = guest.plant.cpus;
    cpu = replicate cpu_limit blank_cpu;
    sources = guest.plant.sources;
    source = filled source_limit blank_source g guest.plant.sources;
  };
}

guest_filled : (guest : Guest) → WholeGuest guest → Behind guest → (f : ℕ → Extent) (g : ℕ → Source) → extent_count guest ≤ extent_limit → source_count guest ≤ source_limit
    → ((i : ℕ) → i < extent_count guest → f i ≡ extent_at guest.extents i) → ((i : ℕ) → i < source_count guest → g i ≡ source_as_loaded (source_at guest.plant i))
    → read_as guest f g ≡ guest_as_loaded guest
guest_filled guest w b f g k m x y =
    let extent = fill_is extent_limit blank_extent f (extent_count guest) guest.extents.extent w.extents k x b.extent in
    let source =
    fill_is source_limit blank_source g (source_count guest) (map source_as_loaded guest.plant.source) (length-map guest.plant.source source_as_loaded ∙ w.sources) m
    (λ i h. y i h ∙ sym (loaded_source guest i))
    (λ i h l. loaded_source guest i ∙ ap source_as_loaded (b.source i h l)) in
    let cpu : replicate cpu_limit blank_cpu ≡ map (λ _. blank_cpu) guest.plant.cpu = rw w.cpus at (all_blank guest.plant.cpu) in
    λ i. record {
      extents = record { extents = extent_count guest; extent = extent i };
      plant = record { versions = no_versions; cpus = guest.plant.cpus; cpu = cpu i; sources = source_count guest; source = source i };
    }

count_read : (s : List ℕ) (at n lo hi : ℕ) (why : ImageRefusal) (v : ℕ) → at + n ≤ 8 * length s → field_at s at n ≡ v → lo ≤ v → v ≤ hi → (n bits_at at of s from lo to hi else why) ≡ granted v
unfolding ◌bits_at◌of◌from◌to◌else◌
count_read s at n lo hi why v r f l h = rw (le-leb (at + n) (8 * length s) r, f, le-leb lo v l, le-leb v hi h)

module _ (s : List ℕ) (at : ℕ) (guest : Guest) (t : There guest) (b : Behind guest) (w : WholeGuest guest) (stands : Stands s at (guest_row guest)) where
  counts_stand : Stands s at (counts_row guest) × Stands s (at + counts_bits) (each_below (extent_count guest) (extent_rows guest) ++ each_below (source_count guest) (source_rows guest))
  unfolding guest_row
  counts_stand =
      let p = stands_parts s at (counts_row guest) (each_below (extent_count guest) (extent_rows guest) ++ each_below (source_count guest) (source_rows guest)) stands in
      (p.0, rw (counts_length guest) at p.1)

  lists_stand : Stands s (at + counts_bits) (each_below (extent_count guest) (extent_rows guest)) × Stands s (at + counts_bits + extent_bits * extent_count guest) (each_below (source_count guest) (source_rows guest))
  lists_stand =
      let p = stands_parts s (at + counts_bits) (each_below (extent_count guest) (extent_rows guest)) (each_below (source_count guest) (source_rows guest)) counts_stand.1 in
      (p.0, rw (each_length (extent_rows guest) extent_bits (λ i. extent_length (extent_at guest.extents i)) (extent_count guest)) at p.1)

  reach_all : at + counts_bits + extent_bits * extent_count guest + source_bits * source_count guest ≤ 8 * length s
  reach_all = rw (each_length (source_rows guest) source_bits (λ i. source_length (source_at guest.plant i)) (source_count guest)) at lists_stand.1.reach

  extents_read_lem : (i : ℕ) → i < extent_count guest → read_extent s (at + counts_bits + extent_bits * i) ≡ extent_at guest.extents i
  extents_read_lem i h =
      let m : extent_count guest ≤ extent_limit = t.extents_most in
      extent_read s (at + counts_bits + extent_bits * i) (extent_at guest.extents i)
      (stands_one s (at + counts_bits) (extent_rows guest) extent_bits (extent_count guest) i (λ i. extent_length (extent_at guest.extents i)) lists_stand.0 h)
      (t.right i h) (w.counts i (omega arith))

  sources_read_lem : (i : ℕ) → i < source_count guest → read_source s (at + counts_bits + extent_bits * extent_count guest + source_bits * i) ≡ source_as_loaded (source_at guest.plant i)
  sources_read_lem i h =
      source_read s (at + counts_bits + extent_bits * extent_count guest + source_bits * i) (source_at guest.plant i)
      (stands_one s (at + counts_bits + extent_bits * extent_count guest) (source_rows guest) source_bits (source_count guest) i (λ i. source_length (source_at guest.plant i)) lists_stand.1 h)
      (t.named i h).0 (t.named i h).1

  lists_read : read_lists s (at + counts_bits) guest.plant.cpus (extent_count guest) (source_count guest) ≡ granted (guest_as_loaded guest)
  unfolding read_lists
  lists_read =
      rw (
        le-leb (at + counts_bits + extent_bits * extent_count guest + source_bits * source_count guest) (8 * length s) reach_all,
        ← guest_filled guest w b (λ i. read_extent s (at + counts_bits + extent_bits * i)) (λ i. read_source s (at + counts_bits + extent_bits * extent_count guest + source_bits * i)) t.extents_most t.sources_most extents_read_lem sources_read_lem,
      )

  guest_read : (g : ℕ) → read_guest s g at ≡ granted (guest_as_loaded guest)
  unfolding read_guest counts_row
  guest_read g =
      let c : guest.plant.cpus ≤ cpu_limit = t.cpus_most in
      let x : extent_count guest ≤ extent_limit = t.extents_most in
      let y : source_count guest ≤ source_limit = t.sources_most in
      let f = three_stand cpus_width extents_width sources_width guest.plant.cpus (extent_count guest) (source_count guest) s at (omega arith) (omega arith) (omega arith) counts_stand.0 in
      rw (
        count_read s at cpus_width 1 cpu_limit (HeaderOrCount g) guest.plant.cpus (omega (arith, f.0)) f.1 t.cpus_least c,
        count_read s (at + cpus_width) extents_width 1 extent_limit (HeaderOrCount g) (extent_count guest) (omega (arith, f.0)) f.2 t.extents_least x,
        count_read s (at + (cpus_width + extents_width)) sources_width 0 source_limit (HeaderOrCount g) (source_count guest) (omega (arith, f.0)) f.3 (omega arith) y,
      )
      lists_read

-- A guest that is absent is blank.
absent_blank : (guest : Guest) → WholeGuest guest → Behind guest → Absent guest → blank_guest ≡ guest_as_loaded guest
unfolding filled
absent_blank guest w b a =
    let none : extent_count guest ≡ 0 = a.extents in
    let nor : source_count guest ≡ 0 = a.sources in
    (λ i. record {
      extents = record { extents = sym none i; extent = filled extent_limit blank_extent (λ _. blank_extent) (sym none i) };
      plant = record {
        versions = no_versions;
        cpus = sym a.cpus i;
        cpu = replicate cpu_limit blank_cpu;
        sources = sym nor i;
        source = filled source_limit blank_source (λ _. blank_source) (sym nor i);
      };
    })
    ∙ guest_filled guest w b (λ _. blank_extent) (λ _. blank_source) (omega arith) (omega arith) (λ i h. absurd (omega arith)) (λ i h. absurd (omega arith))

-- And so are the tables.
module _ (tables : Tables) (whole : Whole tables) (keep : keep_rules tables ≡ true) where
  abbrev s : List ℕ
  s = image_of tables

  abbrev rows : ℕ → List ℕ
  rows g = guest_row (guest_at tables g)

  abbrev loaded : ℕ → Guest
  loaded g = guest_as_loaded (guest_at tables g)

  few : tables.guests ≤ guest_limit
  few = guests_few tables keep

  image_bits : Bits (image_row tables)
  unfolding image_row header_row
  image_bits =
      bits_append (bits_of edition_width 1 ++ bits_of guests_width tables.guests) (each_below tables.guests rows)
      (bits_append (bits_of edition_width 1) (bits_of guests_width tables.guests) (bits_digits edition_width 1) (bits_digits guests_width tables.guests))
      (bits_each rows tables.guests (λ g. guest_bits_lem (guest_at tables g)))

  parts_stand : Stands s 0 (header_row tables) × Stands s header_bits (each_below tables.guests rows)
  unfolding image_of image_row
  parts_stand =
      let p = stands_parts s 0 (header_row tables) (each_below tables.guests rows) (packed_stands (image_row tables) image_bits) in
      (p.0, rw (header_length tables) at p.1)

  header_read : 1 ≤ tables.guests → read_header s ≡ granted tables.guests
  unfolding read_header header_row
  header_read some =
      let most : tables.guests ≤ guest_limit = few in
      let p = stands_parts s 0 (bits_of edition_width 1) (bits_of guests_width tables.guests) parts_stand.0 in
      let x = stands_field s 0 edition_width 1 (omega arith) p.0 in
      let y = stands_field s edition_width guests_width tables.guests (omega arith) (rw bits_length at p.1) in
      rw (
        count_read s 0 edition_width 1 1 (HeaderOrCount 0) 1 x.0 x.1 (omega arith) (omega arith),
        count_read s edition_width guests_width 1 guest_limit (HeaderOrCount 0) tables.guests y.0 y.1 some most,
      )

  -- the first i guests are read, up to this bit
  abbrev end : ℕ → ℕ
  end i = header_bits + length (each_below i rows)

  end_next : (i : ℕ) → behind (end i) (loaded i) ≡ end (i + 1)
  unfolding each_below
  end_next i = rw (add-one i, length-append (each_below i rows) (rows i)) (omega (arith, guest_length (guest_at tables i)))

  guests_read_lem : (k i : ℕ) → i + k ≤ tables.guests → read_guests s k (end i) i (filled guest_limit blank_guest loaded i) ≡ granted (record { guest = filled guest_limit blank_guest loaded (i + k); end = end (i + k) })
  unfolding read_guests
  guests_read_lem zero i h =
      let z : i + 0 ≡ i = omega arith in
      rw z
  guests_read_lem (suc k) i h =
      let l : i < tables.guests = omega arith in
      let m : i < guest_limit = omega (arith, few) in
      let q : i + suc k ≡ i + 1 + k = omega arith in
      let one = guest_read s (end i) (guest_at tables i) (guest_there tables keep i l) (guest_behind tables keep i m) (whole.each i m) (stands_each s header_bits rows tables.guests i parts_stand.1 l) i in
      rw (one, end_next i, fill_next guest_limit blank_guest loaded (filled guest_limit blank_guest loaded i) i (loaded i) refl refl, q) (guests_read_lem k (i + 1) (omega arith))

  loaded_there : (g : ℕ) → g < guest_limit → get_or (as_loaded tables).guest g blank_guest ≡ loaded g
  loaded_there g h = default_same (as_loaded tables).guest g blank_guest hollow_guest (omega (arith, length-map tables.guest guest_as_loaded, whole.guests)) ∙ loaded_at tables g

  all_loaded : filled guest_limit blank_guest loaded tables.guests ≡ (as_loaded tables).guest
  all_loaded =
      let most : tables.guests ≤ guest_limit = few in
      fill_is guest_limit blank_guest loaded tables.guests (as_loaded tables).guest (length-map tables.guest guest_as_loaded ∙ whole.guests) most
      (λ g h. sym (loaded_there g (omega arith)))
      (λ g h l. loaded_there g l ∙ sym (absent_blank (guest_at tables g) (whole.each g l) (guest_behind tables keep g l) (guest_absent tables keep g h l)))

  fields_read : 1 ≤ tables.guests → read_fields s ≡ granted (record { tables = as_loaded tables; end = length (image_row tables) })
  unfolding read_fields filled each_below
  fields_read some =
      let all = rw zero-add at (guests_read_lem tables.guests 0 (omega arith)) in
      rw (header_read some, all, all_loaded, image_length tables)

  judged_read : judged s (length (image_row tables)) (as_loaded tables) ≡ granted (as_loaded tables)
  unfolding judged filled_out image_of
  judged_read =
      rw (
        numbers_right tables keep,
        order_right tables keep,
        pages_right tables keep,
        names_right tables keep,
        eq-eqb (length s) ((length (image_row tables) + 7) / 8) (packed_length (image_row tables)),
        eq-eqb (field_at s (length (image_row tables)) (8 * length s - length (image_row tables))) 0 (packed_fill (image_row tables) image_bits),
      )

-- Tables that are written are loaded again, with every setting as after loading.
pub loaded_again_lem : (tables : Tables) → Whole tables → keep_rules tables ≡ true → 1 ≤ tables.guests → load (image_of tables) ≡ record { answer = Ok tt; tables = as_loaded tables }
unfolding load read_image
loaded_again_lem tables whole keep some = rw (fields_read tables whole keep some, judged_read tables whole keep)

-- They still describe the same partition,
pub loaded_same : (t : Tables) → SamePartition (as_loaded t) t
loaded_same t = record {
  guests = refl;
  guest = λ g h. rw (loaded_at t g) (record {
    cpus = refl;
    extents = refl;
    extent = λ i l. refl;
    sources = refl;
    source = λ i l. rw (loaded_source (guest_at t g) i) (record { devhandle = refl; devino = refl; cookies = refl });
  });
}

-- and no two partitions have one image.
pub image_tells : (t u : Tables) → Whole t → Whole u → keep_rules t ≡ true → keep_rules u ≡ true → 1 ≤ t.guests → 1 ≤ u.guests → image_of t ≡ image_of u → as_loaded t ≡ as_loaded u
image_tells t u wt wu kt ku st su e = ap (λ (l : Loaded). l.tables) (sym (loaded_again_lem t wt kt st) ∙ ap load e ∙ loaded_again_lem u wu ku su)
