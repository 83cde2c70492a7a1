-- An accepted image is written again as the same bytes: each row that is written is the row of bits that was read.
use Rattle.std.specs.Prelude.{if◌then◌else◌}
use mathlib.Core.Path.{◌≡◌, refl, sym, ap, ◌∙◌}
use mathlib.Core.Bool.{Bool, true, false}
use mathlib.Core.List.{List, ◌++◌, append_assoc, append-nil}
use Prim.Native.Nat.{ℕ, zero, suc, ◌+◌, ◌-◌, ◌*◌, ◌/◌, ◌<◌, ◌≤◌}
use native.Mathlib.Nat.{zero-add}
use native.Mathlib.Omega.{arith}
use lib.Dec.{eqb}
use lib.ListN.{length, get_or, set, replicate, length-set, length-replicate}
use lib.Seq.{get_or-set_same, get_or-set_other}
use borrow.Author.Tests.{eqb-true, eqb-false}
use Rattle.rules.specs.declared.Guest.{Guest}
use Rattle.rules.specs.declared.ImageRefusal.TheVariants.{ImageShort, HeaderOrCount}
use Rattle.rules.specs.declared.Tables.{Tables}
use Rattle.rules.specs.Limits.{guest_limit, cpu_limit, extent_limit, source_limit}
use Rattle.rules.specs.Scan.{each_below}
use Rattle.rules.specs.Kept.{blank_extent, blank_cpu, blank_source, blank_guest, hollow_guest, no_versions}
use Rattle.rules.specs.Bits.{field_at, reaches, bits_of}
use Rattle.rules.specs.Rulings.{granted}
use Rattle.rules.specs.Widths.{edition_width, guests_width, header_bits, cpus_width, extents_width, sources_width, counts_bits}
use Rattle.rules.specs.Widths.{real_page_width, page_count_width, host_page_width, extent_bits, devhandle_width, devino_width, cookie_support_width, source_bits}
use Rattle.rules.specs.Image.{read_extent, read_source, filled, read_lists, read_guest, behind, Partition, read_guests, read_header, Fields, read_fields, filled_out, read_image}
use Rattle.rules.specs.Writing.{extent_row, source_row, counts_row, guest_row, header_row, image_row, image_of}
use Rattle.rules.proofs.Tests.{and_left, and_right}
use Rattle.bits.proofs.FieldLaws.{field_lt}
use Rattle.partition.proofs.Filled.{fill_at}
use Rattle.image.proofs.GuestLaws.{cpus_read, extents_read, sources_read, grants_tells}
use Rattle.image.proofs.FieldsLaws.{edition_read, guests_read}
use Rattle.kept.proofs.Accepted.{then_rest, granted_same, count_is, count_least, count_most, judged_tells}
use Rattle.roundtrip.specs.Again.{Bytes}
use Rattle.roundtrip.proofs.BitLaws.{each_same, row, row_append, row_bits, packed_row, three_read}

extent_row_lem : (s : List ℕ) (at : ℕ) → extent_row (read_extent s at) ≡ row s at extent_bits
unfolding extent_row
extent_row_lem s at = three_read s at real_page_width page_count_width host_page_width

-- cookie support is one bit
flag : (v : ℕ) → v < 2 → (if eqb v 1 then 1 else 0) ≡ v
flag v h = go (eqb v 1) refl
  where
    go : (t : Bool) → eqb v 1 ≡ t → (if t then 1 else 0) ≡ v
    go true e = sym (eqb-true v 1 e)
    go false e = omega (arith, eqb-false v 1 e)

source_row_lem : (s : List ℕ) (at : ℕ) → source_row (read_source s at) ≡ row s at source_bits
unfolding source_row
source_row_lem s at =
    let p : ℕ = at + (devhandle_width + devino_width) in
    rw (flag (field_at s p cookie_support_width) (field_lt s p cookie_support_width)) (three_read s at devhandle_width devino_width cookie_support_width)

-- rows of one width
each_row : (s : List ℕ) (at w n : ℕ) (f : ℕ → List ℕ) → ((i : ℕ) → i < n → f i ≡ row s (at + w * i) w) → each_below n f ≡ row s at (w * n)
unfolding each_below row
each_row s at w zero f e =
    let z : w * 0 ≡ 0 = omega arith in
    rw z
each_row s at w (suc n) f e =
    let q : w * suc n ≡ w * n + w = omega arith in
    rw (q, each_row s at w n f (λ i h. e i (omega arith)), e n (omega arith)) (sym (row_append s at (w * n) w))

-- a guest, up to the bit behind it
abbrev guest_bits : Guest → ℕ
guest_bits g = counts_bits + extent_bits * g.extents.extents + source_bits * g.plant.sources

module _ (s : List ℕ) (at cpus extents sources : ℕ) (c : cpus ≡ field_at s at cpus_width) (x : extents ≡ field_at s (at + cpus_width) extents_width) (y : sources ≡ field_at s (at + (cpus_width + extents_width)) sources_width) (e1 : extents ≤ extent_limit) (s1 : sources ≤ source_limit) where
  abbrev lists : Guest
  lists = record {
    extents = record { extents = extents; extent = filled extent_limit blank_extent (λ i. read_extent s (at + counts_bits + extent_bits * i)) extents };
    plant = record {
      versions = no_versions;
      cpus = cpus;
      cpu = replicate cpu_limit blank_cpu;
      sources = sources;
      source = filled source_limit blank_source (λ i. read_source s (at + counts_bits + extent_bits * extents + source_bits * i)) sources;
    };
  }

  counts_row_lem : counts_row lists ≡ row s at counts_bits
  unfolding counts_row
  counts_row_lem = rw (c, x, y) (three_read s at cpus_width extents_width sources_width)

  lists_row : guest_row lists ≡ row s at (guest_bits lists)
  unfolding guest_row
  lists_row =
      let p : at + (counts_bits + extent_bits * extents) ≡ at + counts_bits + extent_bits * extents = omega arith in
      rw (
        counts_row_lem,
        each_row s (at + counts_bits) extent_bits extents _ (λ i h. ap extent_row (fill_at extent_limit blank_extent (λ i. read_extent s (at + counts_bits + extent_bits * i)) i extents h e1) ∙ extent_row_lem s (at + counts_bits + extent_bits * i)),
        each_row s (at + counts_bits + extent_bits * extents) source_bits sources _ (λ i h. ap source_row (fill_at source_limit blank_source (λ i. read_source s (at + counts_bits + extent_bits * extents + source_bits * i)) i sources h s1) ∙ source_row_lem s (at + counts_bits + extent_bits * extents + source_bits * i)),
      )
      (sym (row_append s at (counts_bits + extent_bits * extents) (source_bits * sources) ∙ rw (row_append s at counts_bits (extent_bits * extents), append_assoc, p)))

  read_row : (g : Guest) → read_lists s (at + counts_bits) cpus extents sources ≡ granted g → guest_row g ≡ row s at (guest_bits g)
  unfolding read_lists
  read_row g e = rw (← granted_same lists g (then_rest (reaches s (at + counts_bits + extent_bits * extents + source_bits * sources)) ImageShort (granted lists) g e)) lists_row

guest_row_lem : (s : List ℕ) (n at : ℕ) (g : Guest) → read_guest s n at ≡ granted g → guest_row g ≡ row s at (guest_bits g)
unfolding read_guest
guest_row_lem s n at g e =
    let a = grants_tells (cpus_read s n at) _ g e in
    let b = grants_tells (extents_read s n at) _ g a.1.1 in
    let c = grants_tells (sources_read s n at) _ g b.1.1 in
    read_row s at a.0 b.0 c.0
    (sym (count_is s at cpus_width 1 cpu_limit (HeaderOrCount n) a.0 a.1.0))
    (sym (count_is s (at + cpus_width) extents_width 1 extent_limit (HeaderOrCount n) b.0 b.1.0))
    (sym (count_is s (at + (cpus_width + extents_width)) sources_width 0 source_limit (HeaderOrCount n) c.0 c.1.0))
    (count_most s (at + cpus_width) extents_width 1 extent_limit (HeaderOrCount n) b.0 b.1.0)
    (count_most s (at + (cpus_width + extents_width)) sources_width 0 source_limit (HeaderOrCount n) c.0 c.1.0) g c.1.1

-- the bits before `at` are what is written of the header and of the first i guests
abbrev Before : List ℕ → List ℕ → List Guest → ℕ → ℕ → Type 0
Before s head guest i at = head ++ each_below i (λ g. guest_row (get_or guest g hollow_guest)) ≡ row s 0 at

next_before : (s head : List ℕ) (guest : List Guest) (i at : ℕ) (next : Guest) → i < length guest → guest_row next ≡ row s at (guest_bits next) → Before s head guest i at
    → Before s head (set guest i next) (suc i) (behind at next)
unfolding each_below
next_before s head guest i at next l e b =
    let same = each_same (λ g. guest_row (get_or (set guest i next) g hollow_guest)) (λ g. guest_row (get_or guest g hollow_guest)) i (λ g h. ap guest_row (get_or-set_other guest i g next hollow_guest (λ q. omega arith))) in
    let q : behind at next ≡ at + guest_bits next = omega arith in
    let z : 0 + at ≡ at = omega arith in
    rw (same, get_or-set_same guest i next hollow_guest l, q, row_append s 0 at (guest_bits next), ← append_assoc, b, z, e)

guests_before : (s head : List ℕ) (k at i : ℕ) (guest : List Guest) (r : Partition) → i + k ≤ length guest → read_guests s k at i guest ≡ granted r → Before s head guest i at
    → Before s head r.guest (i + k) r.end
unfolding read_guests
guests_before s head zero at i guest r l e b =
    let z : i + 0 ≡ i = omega arith in
    rw (z, ← granted_same (record { guest = guest; end = at }) r e) b
guests_before s head (suc k) at i guest r l e b =
    let t = grants_tells (read_guest s i at) (λ next. read_guests s k (behind at next) (i + 1) (set guest i next)) r e in
    let more : i + 1 + k ≤ length (set guest i t.0) = simp length-set (omega arith) in
    let q : i + suc k ≡ i + 1 + k = omega arith in
    let n : suc i ≡ i + 1 = omega arith in
    rw q (guests_before s head k (behind at t.0) (i + 1) (set guest i t.0) r more t.1.1 (rw n at (next_before s head guest i at t.0 (omega arith) (guest_row_lem s i at t.0 t.1.0) b)))

-- the header, and then every guest
header_tells : (s : List ℕ) (guests : ℕ) → read_header s ≡ granted guests → (1 ≤ guests) × (guests ≤ guest_limit) × (bits_of edition_width 1 ++ bits_of guests_width guests ≡ row s 0 header_bits)
unfolding read_header
header_tells s guests e =
    let a = grants_tells (edition_read s) (λ _. guests_read s) guests e in
    let least = count_least s 0 edition_width 1 1 (HeaderOrCount 0) a.0 a.1.0 in
    let most = count_most s 0 edition_width 1 1 (HeaderOrCount 0) a.0 a.1.0 in
    let edition : 1 ≡ field_at s 0 edition_width = omega (arith, least, most, count_is s 0 edition_width 1 1 (HeaderOrCount 0) a.0 a.1.0) in
    let count : guests ≡ field_at s edition_width guests_width = sym (count_is s edition_width guests_width 1 guest_limit (HeaderOrCount 0) guests a.1.1) in
    (count_least s edition_width guests_width 1 guest_limit (HeaderOrCount 0) guests a.1.1, count_most s edition_width guests_width 1 guest_limit (HeaderOrCount 0) guests a.1.1, rw (edition, count, ← row_bits s 0 edition_width, ← row_bits s edition_width guests_width) (sym (row_append s 0 edition_width guests_width)))

no_guest_before : (s head : List ℕ) (guest : List Guest) → head ≡ row s 0 header_bits → Before s head guest 0 header_bits
unfolding each_below
no_guest_before s head guest e = append-nil head ∙ e

fields_row : (s : List ℕ) (fields : Fields) → read_fields s ≡ granted fields → image_row fields.tables ≡ row s 0 fields.end
unfolding read_fields image_row header_row
fields_row s fields e =
    let none : List Guest = replicate guest_limit blank_guest in
    let a = grants_tells (read_header s) _ fields e in
    let b = grants_tells (read_guests s a.0 header_bits 0 none) _ fields a.1.1 in
    let h = header_tells s a.0 a.1.0 in
    let room : 0 + a.0 ≤ length none = simp length-replicate (omega (arith, h.1)) in
    let all = guests_before s (bits_of edition_width 1 ++ bits_of guests_width a.0) a.0 header_bits 0 none b.0 room b.1.0 (no_guest_before s _ none h.2) in
    rw (← granted_same (record { tables = record { guests = a.0; guest = b.0.guest }; end = b.0.end }) fields b.1.1) (rw zero-add at all)

-- an accepted image has a guest
fields_guests : (s : List ℕ) (fields : Fields) → read_fields s ≡ granted fields → 1 ≤ fields.tables.guests
unfolding read_fields
fields_guests s fields e =
    let a = grants_tells (read_header s) _ fields e in
    let b = grants_tells (read_guests s a.0 header_bits 0 (replicate guest_limit blank_guest)) _ fields a.1.1 in
    rw (← granted_same (record { tables = record { guests = a.0; guest = b.0.guest }; end = b.0.end }) fields b.1.1) (header_tells s a.0 a.1.0).0

pub accepted_guests : (bytes : List ℕ) (tables : Tables) → read_image bytes ≡ granted tables → 1 ≤ tables.guests
unfolding read_image
accepted_guests bytes tables e =
    let a = grants_tells (read_fields bytes) _ tables e in
    rw (← (judged_tells bytes a.0.end a.0.tables tables a.1.1).2) (fields_guests bytes a.0 a.1.0)

-- An accepted image is written again as it was.
pub written_again : (bytes : List ℕ) (tables : Tables) → Bytes bytes → read_image bytes ≡ granted tables → image_of tables ≡ bytes
unfolding read_image image_of filled_out
written_again bytes tables all e =
    let a = grants_tells (read_fields bytes) _ tables e in
    let end : ℕ = a.0.end in
    let j = judged_tells bytes end a.0.tables tables a.1.1 in
    let long : eqb (length bytes) ((end + 7) / 8) ≡ true = and_left _ _ j.1 in
    let fill : eqb (field_at bytes end (8 * length bytes - end)) 0 ≡ true = and_right (eqb (length bytes) ((end + 7) / 8)) _ j.1 in
    rw (← j.2, fields_row bytes a.0 a.1.0) (packed_row bytes end all (eqb-true _ _ long) (eqb-true _ _ fill))
