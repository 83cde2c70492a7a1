-- What the rules on tables tell of the numbers that an image has, and that they find nothing in the tables as after loading.
use Rattle.std.proofs.Common.{Option, Some, None}
use mathlib.Core.Path.{◌≡◌, refl, ap, ◌∙◌}
use mathlib.Core.Bool.{Bool, true, false, ◌&&◌, not, true≢false}
use mathlib.Core.Logic.{⊎_elim}
use Prim.Native.Nat.{ℕ, ◌*◌, ◌/◌, ◌%◌, ◌<◌, ◌≤◌}
use native.Mathlib.Omega.{arith}
use lib.Dec.{leb, ltb, eqb}
use lib.ListN.{get_or-map}
use borrow.Author.Tests.{leb-true, ltb-true, lt-ltb, le-ltb, eqb-true, not-true}
use Rattle.rules.specs.declared.Extents.{Extents}
use Rattle.rules.specs.declared.Guest.{Guest}
use Rattle.rules.specs.declared.Plant.{Plant}
use Rattle.rules.specs.declared.Source.{Source}
use Rattle.rules.specs.declared.Tables.{Tables}
use Rattle.rules.specs.Limits.{guest_limit, cpu_limit, extent_limit, source_limit, devhandles, devinos}
use Rattle.rules.specs.Scan.{all_below, is_found}
use Rattle.rules.specs.Kept.{blank_extent, blank_source, hollow_guest, guest_at, plant_at, extent_at, cpu_at, source_at, present}
use Rattle.rules.specs.Real.{valid}
use Rattle.rules.specs.Image.{extent_right, right_at, follows, ascend, breaks, first_breaking, run_at, shares_before, pages_shared, twins, named_before, source_twice}
use Rattle.rules.specs.Tables.{list_right, extent_blank, cpu_blank, source_blank, source_right, versions_right, versions_blank, extents_blank, plant_blank, guest_blank, extents_keep, plant_keeps, guest_keeps, keep_rules}
use Rattle.rules.proofs.Blank.{extent_blank_lem, source_blank_lem}
use Rattle.rules.proofs.Scan.{all_at, nothing_of}
use Rattle.rules.proofs.Tests.{and_left, and_right, lt_or_ge}
use Rattle.records.proofs.SoundLaws.{list_there, sources_right, plant_cpus, plant_sources}
use Rattle.tables.proofs.SoundTables.{extents_few, extents_ascend, guests_right, pages_apart}
use Rattle.roundtrip.specs.Again.{source_as_loaded, guest_as_loaded, as_loaded}

-- a list that is right: what holds at each place that is not there
list_absent : (limit count : ℕ) (right blank : ℕ → Bool) → list_right limit count right blank ≡ true → (i : ℕ) → count ≤ i → i < limit → blank i ≡ true
unfolding list_right
list_absent limit count right blank e i h l = rw (le-ltb i count h) at (all_at _ limit i (and_right (leb count limit) _ e) l)

-- the places behind a guest's counts are blank
pub record Behind (guest : Guest) : Type 0 where
  pub extent : (i : ℕ) → guest.extents.extents ≤ i → i < extent_limit → extent_at guest.extents i ≡ blank_extent
  pub source : (i : ℕ) → guest.plant.sources ≤ i → i < source_limit → source_at guest.plant i ≡ blank_source

-- a guest that is there
pub record There (guest : Guest) : Type 0 where
  pub cpus_least : 1 ≤ guest.plant.cpus
  pub cpus_most : guest.plant.cpus ≤ cpu_limit
  pub extents_least : 1 ≤ guest.extents.extents
  pub extents_most : guest.extents.extents ≤ extent_limit
  pub sources_most : guest.plant.sources ≤ source_limit
  pub right : (i : ℕ) → i < guest.extents.extents → right_at guest.extents i ≡ true
  pub order : (i : ℕ) → i < guest.extents.extents → follows guest.extents i ≡ true
  pub named : (i : ℕ) → i < guest.plant.sources → ((source_at guest.plant i).devhandle < devhandles) × ((source_at guest.plant i).devino < devinos)

-- a guest that is not
pub record Absent (guest : Guest) : Type 0 where
  pub cpus : guest.plant.cpus ≡ 0
  pub extents : guest.extents.extents ≡ 0
  pub sources : guest.plant.sources ≡ 0

module _ (guest : Guest) (e : guest_keeps guest ≡ true) where
  abbrev x : Extents
  x = guest.extents

  abbrev p : Plant
  p = guest.plant

  abbrev v : ℕ → ℕ → Bool
  v = valid (present x)

  x_keeps : extents_keep x ≡ true
  unfolding guest_keeps
  x_keeps = and_left (extents_keep x) _ e

  p_keeps : plant_keeps v p ≡ true
  unfolding guest_keeps
  p_keeps = and_right (extents_keep x) _ e

  places : list_right extent_limit x.extents (λ i. extent_right (extent_at x i)) (λ i. extent_blank (extent_at x i)) ≡ true
  unfolding extents_keep
  places = and_left _ (ascend x) (and_right (leb 1 x.extents) _ x_keeps)

  some_extent : leb 1 x.extents ≡ true
  unfolding extents_keep
  some_extent = and_left (leb 1 x.extents) _ x_keeps

  ordered : all_below x.extents (follows x) ≡ true
  unfolding ascend
  ordered = extents_ascend x x_keeps

  some_cpu : leb 1 p.cpus ≡ true
  unfolding plant_keeps
  some_cpu = and_left (leb 1 p.cpus) _ (and_left (leb 1 p.cpus && versions_right p.versions) _ p_keeps)

  name_right : (s : Source) → source_right p s ≡ true → (s.devhandle < devhandles) × (s.devino < devinos)
  unfolding source_right
  name_right s q =
      let n = and_left (ltb s.devhandle devhandles && ltb s.devino devinos) _ q in
      (ltb-true _ _ (and_left (ltb s.devhandle devhandles) _ n), ltb-true _ _ (and_right (ltb s.devhandle devhandles) _ n))

  pub keeps_there : There guest
  keeps_there = record {
    cpus_least = leb-true _ _ some_cpu;
    cpus_most = plant_cpus v p p_keeps;
    extents_least = leb-true _ _ some_extent;
    extents_most = extents_few x x_keeps;
    sources_most = plant_sources v p p_keeps;
    right = list_there _ _ _ _ places;
    order = λ i h. all_at (follows x) x.extents i ordered h;
    named = λ i h. name_right (source_at p i) (list_there _ _ _ _ (sources_right v p p_keeps) i h);
  }

  pub keeps_behind : Behind guest
  keeps_behind = record {
    extent = λ i h l. extent_blank_lem (extent_at x i) (list_absent _ _ _ _ places i h l);
    source = λ i h l. source_blank_lem (source_at p i) (list_absent _ _ _ _ (sources_right v p p_keeps) i h l);
  }

module _ (guest : Guest) (e : guest_blank guest ≡ true) where
  abbrev y : Extents
  y = guest.extents

  abbrev q : Plant
  q = guest.plant

  extents_blank_lem : (eqb y.extents 0 && all_below extent_limit (λ i. extent_blank (extent_at y i))) ≡ true
  unfolding guest_blank extents_blank
  extents_blank_lem = and_left (extents_blank y) _ e

  abbrev counts : Bool
  counts = versions_blank q.versions && (eqb q.cpus 0 && eqb q.sources 0)

  counts_blank : counts ≡ true
  unfolding guest_blank plant_blank
  counts_blank = and_left counts _ (and_right (extents_blank y) _ e)

  sources_blank_lem : all_below source_limit (λ i. source_blank (source_at q i)) ≡ true
  unfolding guest_blank plant_blank
  sources_blank_lem = and_right (all_below cpu_limit (λ c. cpu_blank (cpu_at q c))) _ (and_right counts _ (and_right (extents_blank y) _ e))

  pub blank_absent : Absent guest
  blank_absent =
      let r = and_right (versions_blank q.versions) _ counts_blank in
      record {
        cpus = eqb-true _ _ (and_left (eqb q.cpus 0) _ r);
        extents = eqb-true _ _ (and_left (eqb y.extents 0) _ extents_blank_lem);
        sources = eqb-true _ _ (and_right (eqb q.cpus 0) _ r);
      }

  pub blank_behind : Behind guest
  blank_behind = record {
    extent = λ i h l. extent_blank_lem (extent_at y i) (all_at (λ i. extent_blank (extent_at y i)) extent_limit i (and_right (eqb y.extents 0) _ extents_blank_lem) l);
    source = λ i h l. source_blank_lem (source_at q i) (all_at (λ i. source_blank (source_at q i)) source_limit i sources_blank_lem l);
  }

pub loaded_source : (guest : Guest) (i : ℕ) → source_at (guest_as_loaded guest).plant i ≡ source_as_loaded (source_at guest.plant i)
loaded_source guest i = get_or-map source_as_loaded guest.plant.source i blank_source

module _ (t : Tables) where
  -- Tables as after loading have the same extents and names at each place.
  pub loaded_at : (g : ℕ) → guest_at (as_loaded t) g ≡ guest_as_loaded (guest_at t g)
  loaded_at g = get_or-map guest_as_loaded t.guest g hollow_guest

  loaded_plant : (g : ℕ) → plant_at (as_loaded t) g ≡ (guest_as_loaded (guest_at t g)).plant
  loaded_plant g = ap (λ (x : Guest). x.plant) (loaded_at g)

  loaded_breaking : (rule : Extents → ℕ → Bool) → first_breaking rule (as_loaded t) ≡ first_breaking rule t
  unfolding first_breaking
  loaded_breaking rule = simp loaded_at

  loaded_pages : shares_before (as_loaded t) ≡ shares_before t
  unfolding shares_before run_at
  loaded_pages = simp loaded_at

  loaded_names : named_before (as_loaded t) ≡ named_before t
  unfolding named_before twins
  loaded_names = simp (loaded_plant, loaded_source)

  module _ (keep : keep_rules t ≡ true) where
    abbrev guests : Bool
    guests = list_right guest_limit t.guests (λ g. guest_keeps (guest_at t g)) (λ g. guest_blank (guest_at t g))

    names_apart : source_twice t ≡ false
    unfolding keep_rules
    names_apart = not-true _ (and_right (not (pages_shared t)) _ (and_right guests _ keep))

    pub guest_there : (g : ℕ) → g < t.guests → There (guest_at t g)
    guest_there g h = keeps_there (guest_at t g) (list_there _ _ _ _ (guests_right t keep) g h)

    pub guest_absent : (g : ℕ) → t.guests ≤ g → g < guest_limit → Absent (guest_at t g)
    guest_absent g h l = blank_absent (guest_at t g) (list_absent _ _ _ _ (guests_right t keep) g h l)

    pub guest_behind : (g : ℕ) → g < guest_limit → Behind (guest_at t g)
    guest_behind g l =
        ⊎_elim
        (λ h. keeps_behind (guest_at t g) (list_there _ _ _ _ (guests_right t keep) g h))
        (λ h. blank_behind (guest_at t g) (list_absent _ _ _ _ (guests_right t keep) g h l))
        (lt_or_ge g t.guests)

    -- the rules of an image find nothing
    none_breaks : (rule : Extents → ℕ → Bool) → ((g : ℕ) → g < t.guests → (i : ℕ) → i < (guest_at t g).extents.extents → rule (guest_at t g).extents i ≡ true)
        → first_breaking rule (as_loaded t) ≡ None
    unfolding first_breaking breaks
    none_breaks rule f =
        loaded_breaking rule
        ∙ nothing_of (λ k. breaks rule (guest_at t (k / extent_limit)).extents (k % extent_limit)) (guest_limit * extent_limit) (λ k h.
        ⊎_elim
        (λ there. ⊎_elim
        (λ l. rw (lt-ltb (k % extent_limit) (guest_at t (k / extent_limit)).extents.extents l, f (k / extent_limit) there (k % extent_limit) l))
        (λ l. rw (le-ltb (k % extent_limit) (guest_at t (k / extent_limit)).extents.extents l))
        (lt_or_ge (k % extent_limit) (guest_at t (k / extent_limit)).extents.extents))
        (λ past. rw (le-ltb (k % extent_limit) (guest_at t (k / extent_limit)).extents.extents (omega (arith, (guest_absent (k / extent_limit) past (omega arith)).extents))))
        (lt_or_ge (k / extent_limit) t.guests))

    not_found : (x : Option ℕ) → is_found x ≡ false → x ≡ None
    not_found None e = refl
    not_found (Some k) e = absurd (true≢false e)

    pub numbers_right : first_breaking right_at (as_loaded t) ≡ None
    numbers_right = none_breaks right_at (λ g h. (guest_there g h).right)

    pub order_right : first_breaking follows (as_loaded t) ≡ None
    order_right = none_breaks follows (λ g h. (guest_there g h).order)

    pub pages_right : shares_before (as_loaded t) ≡ None
    pages_right = loaded_pages ∙ not_found (shares_before t) (pages_apart t keep)

    pub names_right : named_before (as_loaded t) ≡ None
    names_right = loaded_names ∙ not_found (named_before t) names_apart
