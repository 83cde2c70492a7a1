-- Promise: an accepted image gives tables that keep the rules.
use Rattle.std.specs.Prelude.{if◌then◌else◌, Option, Some, None}
use mathlib.Core.Path.{◌≡◌, refl, ap, ◌∙◌}
use mathlib.Core.Bool.{Bool, true, false, ◌&&◌}
use mathlib.Core.List.{List}
use Prim.Native.Nat.{ℕ, zero, suc, ◌+◌, ◌*◌, ◌/◌, ◌%◌, ◌≤◌, ◌<◌}
use native.Mathlib.Omega.{arith}
use lib.Dec.{leb, ltb, eqb}
use lib.ListN.{length, get_or, set, replicate, take, get_or-replicate, length-replicate, length-set}
use lib.Seq.{get_or-set_same, get_or-set_other}
use borrow.Author.Tests.{le-leb, leb-true, lt-ltb, ltb-true, ltb-false, eqb-true, eqb-false, not-false}
use Rattle.rules.specs.declared.Cpu.{Cpu}
use Rattle.rules.specs.declared.Extents.{Extents}
use Rattle.rules.specs.declared.Guest.{Guest}
use Rattle.rules.specs.declared.ImageRefusal.{ImageRefusal}
use Rattle.rules.specs.declared.ImageRefusal.TheVariants.{ImageShort, HeaderOrCount, ExtentNumbers, ExtentOrder, PagesShared, SourceTwice, FillOrBehind}
use Rattle.rules.specs.declared.Plant.{Plant}
use Rattle.rules.specs.declared.Tables.{Tables}
use Rattle.rules.specs.Limits.{guest_limit, cpu_limit, extent_limit, source_limit, devhandles, devinos}
use Rattle.rules.specs.Kept.{blank_extent, blank_cpu, blank_source, blank_guest, hollow_cpu, hollow_guest, no_versions, no_guests, guest_at, extent_at, cpu_at, source_at}
use Rattle.rules.specs.Bits.{field_at, reaches}
use Rattle.rules.specs.Real.{valid}
use Rattle.rules.specs.Rulings.{RulingBy, refused, granted, ◌or_refuse◌then◌, ◌refuses◌then◌}
use Rattle.rules.specs.Widths.{edition_width, guests_width, header_bits, cpus_width, extents_width, sources_width, counts_bits, extent_bits, devhandle_width, devino_width, source_bits}
use Rattle.rules.specs.Image.{Reading, ◌bits_at◌of◌from◌to◌else◌, filled, read_extent, read_source, read_lists, read_guest, Partition, read_guests, behind, read_header, Fields, read_fields, extent_right, right_at, follows, ascend, at_extent, at_source, breaks, first_breaking, shares_before, named_before, filled_out, judged, read_image, loaded_as, load}
use Rattle.rules.specs.Tables.{list_right, cpu_blank, cpu_right, source_blank, source_right, cookie_right, enabled_right, versions_right, extent_blank, extents_keep, plant_keeps, guest_keeps, guest_blank, keep_rules}
use Rattle.rules.proofs.Computing.{computing}
use Rattle.rules.proofs.Scan.{all_of, nothing_at}
use Rattle.rules.proofs.Tests.{and_left, and_right}
use Rattle.bits.proofs.FieldLaws.{field_lt}
use Rattle.partition.proofs.Filled.{fill_at}
use Rattle.image.proofs.GuestLaws.{cpus_read, extents_read, sources_read, grants_tells}
use Rattle.image.proofs.FieldsLaws.{edition_read}

-- What a ruling that grants tells.

pub then_tells : {R A : Type 0} (t : Bool) (r : R) (x : RulingBy R A) (a : A) → (t or_refuse r then x) ≡ granted a → t ≡ true
then_tells true r x a e = refl
then_tells false r x a e = let z : ◌≡◌ {A = ℕ} 0 1 = cc in absurd (omega arith)

pub then_rest : {R A : Type 0} (t : Bool) (r : R) (x : RulingBy R A) (a : A) → (t or_refuse r then x) ≡ granted a → x ≡ granted a
then_rest true r x a e = e
then_rest false r x a e = let z : ◌≡◌ {A = ℕ} 0 1 = cc in absurd (omega arith)

pub scan_tells : {R A : Type 0} (found : Option ℕ) (r : ℕ → R) (x : RulingBy R A) (a : A) → (found refuses r then x) ≡ granted a → (found ≡ None) × (x ≡ granted a)
scan_tells None r x a e = (refl, e)
scan_tells (Some k) r x a e = let z : ◌≡◌ {A = ℕ} 0 1 = cc in absurd (omega arith)

pub granted_same : {R A : Type 0} (a b : A) → ◌≡◌ {A = RulingBy R A} (granted a) (granted b) → a ≡ b
granted_same a b e = cc

-- a count lies within its limits
module _ (bytes : List ℕ) (at n lo hi : ℕ) (why : ImageRefusal) (v : ℕ) (e : (n bits_at at of bytes from lo to hi else why) ≡ granted v) where
  abbrev limits : Bool
  limits = leb lo (field_at bytes at n) && leb (field_at bytes at n) hi

  counted : (limits or_refuse why then granted (field_at bytes at n)) ≡ granted v
  unfolding ◌bits_at◌of◌from◌to◌else◌
  counted = then_rest (reaches bytes (at + n)) ImageShort (limits or_refuse why then granted (field_at bytes at n)) v e

  count_limits : limits ≡ true
  count_limits = then_tells limits why (granted (field_at bytes at n)) v counted

  pub count_is : field_at bytes at n ≡ v
  count_is = granted_same (field_at bytes at n) v (then_rest limits why (granted (field_at bytes at n)) v counted)

  pub count_least : lo ≤ v
  count_least = rw count_is at (leb-true lo (field_at bytes at n) (and_left _ _ count_limits))

  pub count_most : v ≤ hi
  count_most = rw count_is at (leb-true (field_at bytes at n) hi (and_right (leb lo (field_at bytes at n)) _ count_limits))

-- a list that is right
pub list_right_lem : (limit count : ℕ) (right blank : ℕ → Bool) → count ≤ limit → ((i : ℕ) → i < count → right i ≡ true) → ((i : ℕ) → count ≤ i → i < limit → blank i ≡ true) → list_right limit count right blank ≡ true
unfolding list_right
list_right_lem limit count right blank h f g =
    rw (le-leb count limit h) (all_of (λ i. if ltb i count then right i else blank i) limit (λ i l. go i l (ltb i count) refl))
  where
    go : (i : ℕ) → i < limit → (t : Bool) → ltb i count ≡ t → (if t then right i else blank i) ≡ true
    go i l true e = f i (ltb-true i count e)
    go i l false e = g i (ltb-false i count e) l

-- the places of an array that is filled from the front, behind those that are
pub past_blank : {A : Type 0} (size : ℕ) (blank : A) (i : ℕ) → get_or (replicate size blank) i blank ≡ blank
past_blank zero blank i = refl
past_blank (suc n) blank zero = refl
past_blank (suc n) blank (suc i) = past_blank n blank i

pub fill_past : {A : Type 0} (size : ℕ) (blank : A) (f : ℕ → A) (n i : ℕ) → n ≤ i → get_or (filled size blank f n) i blank ≡ blank
unfolding filled
fill_past size blank f zero i h = past_blank size blank i
fill_past size blank f (suc n) i h = get_or-set_other (filled size blank f n) n i (f n) blank (λ q. omega arith) ∙ fill_past size blank f n i (omega arith)

-- a guest as an image gives it
pub record Fresh (g : Guest) : Type 0 where
  pub cpus_least : 1 ≤ g.plant.cpus
  pub cpus_most : g.plant.cpus ≤ cpu_limit
  pub extents_least : 1 ≤ g.extents.extents
  pub extents_most : g.extents.extents ≤ extent_limit
  pub sources_most : g.plant.sources ≤ source_limit
  pub versions : g.plant.versions ≡ no_versions
  pub cpu : g.plant.cpu ≡ replicate cpu_limit blank_cpu
  pub extent_past : (i : ℕ) → g.extents.extents ≤ i → extent_at g.extents i ≡ blank_extent
  pub source_read : (i : ℕ) → i < g.plant.sources → (bytes : List ℕ) × (at : ℕ) × (source_at g.plant i ≡ read_source bytes at)
  pub source_past : (i : ℕ) → g.plant.sources ≤ i → source_at g.plant i ≡ blank_source

module _ (bytes : List ℕ) (at cpus extents sources : ℕ) (c0 : 1 ≤ cpus) (c1 : cpus ≤ cpu_limit) (e0 : 1 ≤ extents) (e1 : extents ≤ extent_limit) (s1 : sources ≤ source_limit) where
  abbrev lists : Guest
  lists = record {
    extents = record { extents = extents; extent = filled extent_limit blank_extent (λ i. read_extent bytes (at + extent_bits * i)) extents };
    plant = record {
      versions = no_versions;
      cpus = cpus;
      cpu = replicate cpu_limit blank_cpu;
      sources = sources;
      source = filled source_limit blank_source (λ i. read_source bytes (at + extent_bits * extents + source_bits * i)) sources;
    };
  }

  lists_fresh : Fresh lists
  lists_fresh = record {
    cpus_least = c0;
    cpus_most = c1;
    extents_least = e0;
    extents_most = e1;
    sources_most = s1;
    versions = refl;
    cpu = refl;
    extent_past = λ i h. fill_past extent_limit blank_extent (λ i. read_extent bytes (at + extent_bits * i)) extents i h;
    source_read = λ i h. (bytes, at + extent_bits * extents + source_bits * i, fill_at source_limit blank_source (λ i. read_source bytes (at + extent_bits * extents + source_bits * i)) i sources h s1);
    source_past = λ i h. fill_past source_limit blank_source (λ i. read_source bytes (at + extent_bits * extents + source_bits * i)) sources i h;
  }

  read_lists_fresh : (g : Guest) → read_lists bytes at cpus extents sources ≡ granted g → Fresh g
  unfolding read_lists
  read_lists_fresh g e =
      rw (← granted_same lists g (then_rest (reaches bytes (at + extent_bits * extents + source_bits * sources)) ImageShort (granted lists) g e)) lists_fresh

read_guest_fresh : (bytes : List ℕ) (n at : ℕ) (g : Guest) → read_guest bytes n at ≡ granted g → Fresh g
unfolding read_guest
read_guest_fresh bytes n at g e =
    let a = grants_tells (cpus_read bytes n at) _ g e in
    let b = grants_tells (extents_read bytes n at) _ g a.1.1 in
    let c = grants_tells (sources_read bytes n at) _ g b.1.1 in
    read_lists_fresh bytes (at + counts_bits) a.0 b.0 c.0
    (count_least bytes at cpus_width 1 cpu_limit (HeaderOrCount n) a.0 a.1.0) (count_most bytes at cpus_width 1 cpu_limit (HeaderOrCount n) a.0 a.1.0)
    (count_least bytes (at + cpus_width) extents_width 1 extent_limit (HeaderOrCount n) b.0 b.1.0) (count_most bytes (at + cpus_width) extents_width 1 extent_limit (HeaderOrCount n) b.0 b.1.0)
    (count_most bytes (at + (cpus_width + extents_width)) sources_width 0 source_limit (HeaderOrCount n) c.0 c.1.0) g c.1.1

-- Such a guest keeps the rules.

cpu_right_lem : (v : ℕ → ℕ → Bool) → cpu_right v blank_cpu ≡ true
unfolding computing
cpu_right_lem v = refl

cpu_blank_lem : cpu_blank blank_cpu ≡ true
unfolding computing
cpu_blank_lem = refl

source_blank_lem : source_blank blank_source ≡ true
unfolding computing
source_blank_lem = refl

extent_blank_lem : extent_blank blank_extent ≡ true
unfolding computing
extent_blank_lem = refl

guest_blank_lem : guest_blank blank_guest ≡ true
unfolding computing
guest_blank_lem = refl

no_versions_lem : versions_right no_versions ≡ true
unfolding computing
no_versions_lem = refl

-- its target is cpu 0: right only because a guest has a cpu
source_right_lem : (plant : Plant) (bytes : List ℕ) (at : ℕ) → 1 ≤ plant.cpus → source_right plant (read_source bytes at) ≡ true
unfolding source_right cookie_right enabled_right
source_right_lem plant bytes at h =
    rw (lt-ltb 0 plant.cpus h, lt-ltb (field_at bytes at devhandle_width) devhandles (field_lt bytes at devhandle_width), lt-ltb (field_at bytes (at + devhandle_width) devino_width) devinos (field_lt bytes (at + devhandle_width) devino_width))

module _ (v : ℕ → ℕ → Bool) (g : Guest) (f : Fresh g) where
  abbrev p : Plant
  p = g.plant

  cpu_is : (c : ℕ) → c < cpu_limit → cpu_at p c ≡ blank_cpu
  cpu_is c h = ap (λ (l : List Cpu). get_or l c hollow_cpu) f.cpu ∙ get_or-replicate cpu_limit c blank_cpu hollow_cpu h

  cpus_right : list_right cpu_limit p.cpus (λ c. cpu_right v (cpu_at p c)) (λ c. cpu_blank (cpu_at p c)) ≡ true
  cpus_right =
      let most : p.cpus ≤ cpu_limit = f.cpus_most in
      list_right_lem cpu_limit p.cpus (λ c. cpu_right v (cpu_at p c)) (λ c. cpu_blank (cpu_at p c)) most
      (λ c h. ap (cpu_right v) (cpu_is c (omega arith)) ∙ cpu_right_lem v)
      (λ c h l. ap cpu_blank (cpu_is c l) ∙ cpu_blank_lem)

  sources_right : list_right source_limit p.sources (λ i. source_right p (source_at p i)) (λ i. source_blank (source_at p i)) ≡ true
  sources_right =
      list_right_lem source_limit p.sources (λ i. source_right p (source_at p i)) (λ i. source_blank (source_at p i)) f.sources_most
      (λ i h. ap (source_right p) (f.source_read i h).2 ∙ source_right_lem p (f.source_read i h).0 (f.source_read i h).1 f.cpus_least)
      (λ i h l. ap source_blank (f.source_past i h) ∙ source_blank_lem)

  versions_right_lem : versions_right p.versions ≡ true
  versions_right_lem = ap versions_right f.versions ∙ no_versions_lem

  fresh_plant : plant_keeps v p ≡ true
  unfolding plant_keeps
  fresh_plant = rw (le-leb 1 p.cpus f.cpus_least, versions_right_lem, cpus_right, sources_right)

-- the rule holds of every extent that is there
abbrev Throughout : (Extents → ℕ → Bool) → Extents → Type 0
Throughout rule e = (i : ℕ) → i < e.extents → rule e i ≡ true

fresh_extents : (g : Guest) → Fresh g → Throughout right_at g.extents → Throughout follows g.extents → extents_keep g.extents ≡ true
unfolding extents_keep ascend
fresh_extents g f r a =
    rw (le-leb 1 g.extents.extents f.extents_least, all_of (follows g.extents) g.extents.extents a, places)
  where
    places : list_right extent_limit g.extents.extents (λ i. extent_right (extent_at g.extents i)) (λ i. extent_blank (extent_at g.extents i)) ≡ true
    places =
        list_right_lem extent_limit g.extents.extents (λ i. extent_right (extent_at g.extents i)) (λ i. extent_blank (extent_at g.extents i)) f.extents_most
        r
        (λ i h l. ap extent_blank (f.extent_past i h) ∙ extent_blank_lem)

fresh_keeps : (g : Guest) → Fresh g → Throughout right_at g.extents → Throughout follows g.extents → guest_keeps g ≡ true
unfolding guest_keeps
fresh_keeps g f r a = rw (fresh_extents g f r a) (fresh_plant (valid (take g.extents.extents g.extents.extent)) g f)

-- The guests that were read, and the places around them.

record Around (before after : List Guest) (i k : ℕ) : Type 0 where
  below : (j : ℕ) → j < i → get_or after j hollow_guest ≡ get_or before j hollow_guest
  among : (j : ℕ) → i ≤ j → j < i + k → Fresh (get_or after j hollow_guest)
  behind_them : (j : ℕ) → i + k ≤ j → get_or after j hollow_guest ≡ get_or before j hollow_guest

read_around : (bytes : List ℕ) (k at i : ℕ) (guest : List Guest) (r : Partition) → i + k ≤ length guest → read_guests bytes k at i guest ≡ granted r → Around guest r.guest i k
unfolding read_guests
read_around bytes zero at i guest r l e =
    let q : guest ≡ r.guest = ap (λ (x : Partition). x.guest) (granted_same (record { guest = guest; end = at }) r e) in
    record {
      below = λ j h. rw q refl;
      among = λ j h m. absurd (omega arith);
      behind_them = λ j h. rw q refl;
    }
read_around bytes (suc k) at i guest r l e =
    let t = grants_tells (read_guest bytes i at) (λ next. read_guests bytes k (behind at next) (i + 1) (set guest i next)) r e in
    let more : i + 1 + k ≤ length (set guest i t.0) = simp length-set (omega arith) in
    go t.0 (read_guest_fresh bytes i at t.0 t.1.0) (read_around bytes k (behind at t.0) (i + 1) (set guest i t.0) r more t.1.1)
  where
    go : (next : Guest) → Fresh next → Around (set guest i next) r.guest (i + 1) k → Around guest r.guest i (suc k)
    go next f a = record {
      below = λ j h. a.below j (omega arith) ∙ get_or-set_other guest i j next hollow_guest (λ q. omega arith);
      among = λ j h m. at_or_behind j h m (eqb j i) refl;
      behind_them = λ j h. a.behind_them j (omega arith) ∙ get_or-set_other guest i j next hollow_guest (λ q. omega arith);
    }
      where
        at_or_behind : (j : ℕ) → i ≤ j → j < i + suc k → (t : Bool) → eqb j i ≡ t → Fresh (get_or r.guest j hollow_guest)
        at_or_behind j h m true e =
            let q : j ≡ i = eqb-true j i e in
            rw (a.below j (omega arith), q, get_or-set_same guest i next hollow_guest (omega arith)) f
        at_or_behind j h m false e = a.among j (omega (arith, eqb-false j i e)) (omega arith)

-- tables as the fields give them
pub record AsRead (tables : Tables) : Type 0 where
  pub guests_most : tables.guests ≤ guest_limit
  pub there : (g : ℕ) → g < tables.guests → Fresh (guest_at tables g)
  pub absent : (g : ℕ) → tables.guests ≤ g → g < guest_limit → guest_at tables g ≡ blank_guest

header_most : (bytes : List ℕ) (guests : ℕ) → read_header bytes ≡ granted guests → guests ≤ guest_limit
unfolding read_header
header_most bytes guests e = count_most bytes edition_width guests_width 1 guest_limit (HeaderOrCount 0) guests (grants_tells (edition_read bytes) _ guests e).1.1

pub fields_as_read : (bytes : List ℕ) (fields : Fields) → read_fields bytes ≡ granted fields → AsRead fields.tables
unfolding read_fields
fields_as_read bytes fields e =
    let a = grants_tells (read_header bytes) _ fields e in
    let b = grants_tells (read_guests bytes a.0 header_bits 0 (replicate guest_limit blank_guest)) _ fields a.1.1 in
    let most : a.0 ≤ guest_limit = header_most bytes a.0 a.1.0 in
    let room : 0 + a.0 ≤ length (replicate guest_limit blank_guest) = simp length-replicate (omega arith) in
    let around = read_around bytes a.0 header_bits 0 (replicate guest_limit blank_guest) b.0 room b.1.0 in
    let t : Tables = record { guests = a.0; guest = b.0.guest } in
    let q : t ≡ fields.tables = ap (λ (f : Fields). f.tables) (granted_same (record { tables = t; end = b.0.end }) fields b.1.1) in
    rw (← q)
    (record {
      guests_most = most;
      there = λ g h. around.among g (omega arith) (omega arith);
      absent = λ g h l. around.behind_them g (omega arith) ∙ get_or-replicate guest_limit g blank_guest hollow_guest l;
    })

-- tables in which no fault was found
pub record NoFault (tables : Tables) : Type 0 where
  numbers : first_breaking right_at tables ≡ None
  order : first_breaking follows tables ≡ None
  pages : shares_before tables ≡ None
  names : named_before tables ≡ None

-- What the later rules tell.
module _ (bytes : List ℕ) (end : ℕ) (t r : Tables) (e : judged bytes end t ≡ granted r) where
  abbrev filled_last : Reading Tables
  filled_last = filled_out bytes end or_refuse FillOrBehind t.guests then granted t

  abbrev names_last : Reading Tables
  names_last = named_before t refuses at_source SourceTwice then filled_last

  abbrev pages_last : Reading Tables
  pages_last = shares_before t refuses at_extent PagesShared then names_last

  abbrev order_last : Reading Tables
  order_last = first_breaking follows t refuses at_extent ExtentOrder then pages_last

  pub judged_tells : NoFault t × (filled_out bytes end ≡ true) × (t ≡ r)
  unfolding judged
  judged_tells =
      let a = scan_tells (first_breaking right_at t) (at_extent ExtentNumbers) order_last r e in
      let b = scan_tells (first_breaking follows t) (at_extent ExtentOrder) pages_last r a.1 in
      let c = scan_tells (shares_before t) (at_extent PagesShared) names_last r b.1 in
      let d = scan_tells (named_before t) (at_source SourceTwice) filled_last r c.1 in
      let why : ImageRefusal = FillOrBehind t.guests in
      let faultless : NoFault t = record { numbers = a.0; order = b.0; pages = c.0; names = d.0 } in
      (faultless, then_tells (filled_out bytes end) why (granted t) r d.1, granted_same t r (then_rest (filled_out bytes end) why (granted t) r d.1))

-- a rule that no extent was found to break holds of those that are there
none_breaks : (rule : Extents → ℕ → Bool) (t : Tables) → first_breaking rule t ≡ None → (g : ℕ) → g < guest_limit → (guest_at t g).extents.extents ≤ extent_limit → Throughout rule (guest_at t g).extents
unfolding first_breaking breaks
none_breaks rule t n g l few i h =
    let q : (extent_limit * g + i) / extent_limit ≡ g = omega arith in
    let m : (extent_limit * g + i) % extent_limit ≡ i = omega arith in
    not-false _ (rw (q, m, lt-ltb i (guest_at t g).extents.extents h) at (nothing_at (λ k. breaks rule (guest_at t (k / extent_limit)).extents (k % extent_limit)) (guest_limit * extent_limit) (extent_limit * g + i) n (omega arith)))

as_read_keeps : (t : Tables) → AsRead t → NoFault t → keep_rules t ≡ true
unfolding keep_rules
as_read_keeps t a n = rw (places, n.pages, n.names)
  where
    fresh : (g : ℕ) → g < t.guests → guest_keeps (guest_at t g) ≡ true
    fresh g h =
        let most : t.guests ≤ guest_limit = a.guests_most in
        let few : (guest_at t g).extents.extents ≤ extent_limit = (a.there g h).extents_most in
        fresh_keeps (guest_at t g) (a.there g h) (none_breaks right_at t n.numbers g (omega arith) few) (none_breaks follows t n.order g (omega arith) few)

    places : list_right guest_limit t.guests (λ g. guest_keeps (guest_at t g)) (λ g. guest_blank (guest_at t g)) ≡ true
    places =
        list_right_lem guest_limit t.guests (λ g. guest_keeps (guest_at t g)) (λ g. guest_blank (guest_at t g)) a.guests_most fresh
        (λ g h l. ap guest_blank (a.absent g h l) ∙ guest_blank_lem)

-- what an accepted image tells
accepted_read : (bytes : List ℕ) (tables : Tables) → read_image bytes ≡ granted tables → AsRead tables × NoFault tables
unfolding read_image
accepted_read bytes tables e =
    let a = grants_tells (read_fields bytes) _ tables e in
    let j = judged_tells bytes a.0.end a.0.tables tables a.1.1 in
    rw (← j.2) (fields_as_read bytes a.0 a.1.0, j.0)

-- its guests are as they were read
pub accepted_fresh : (bytes : List ℕ) (tables : Tables) → read_image bytes ≡ granted tables → (g : ℕ) → g < tables.guests → Fresh (guest_at tables g)
accepted_fresh bytes tables e g h = (accepted_read bytes tables e).0.there g h

-- An accepted image gives tables that keep the rules.
pub accepted_keeps : (bytes : List ℕ) (tables : Tables) → read_image bytes ≡ granted tables → keep_rules tables ≡ true
accepted_keeps bytes tables e =
    let r = accepted_read bytes tables e in
    as_read_keeps tables r.0 r.1

-- Whatever is loaded keeps the rules: an image that is refused gives the tables with no guest.
no_guests_keep : keep_rules no_guests ≡ true
unfolding computing
no_guests_keep = refl

pub load_keeps : (bytes : List ℕ) → keep_rules (load bytes).tables ≡ true
unfolding load
load_keeps bytes = go (read_image bytes) refl
  where
    go : (x : Reading Tables) → read_image bytes ≡ x → keep_rules (loaded_as x).tables ≡ true
    go (refused r) e = no_guests_keep
    go (granted tables) e = accepted_keeps bytes tables e
