-- Promise: the tables keep the rules. Whatever an event is, tables that keep the rules keep them afterwards, so that a host
-- that loaded its image answers no event with 101.
use Rattle.std.proofs.Common.{Option, Some, None}
use mathlib.Core.Path.{◌≡◌, refl, ap}
use mathlib.Core.Bool.{Bool, true, false}
use mathlib.Core.List.{List}
use Prim.Native.Nat.{ℕ, ◌/◌, ◌%◌, ◌*◌, ◌≤◌, ◌<◌}
use native.Mathlib.Omega.{arith}
use lib.Dec.{ltb}
use lib.ListN.{length}
use borrow.Author.Tests.{ltb-true}
use Rattle.rules.specs.declared.Event.{Event}
use Rattle.rules.specs.declared.Extents.{Extents}
use Rattle.rules.specs.declared.Guest.{Guest}
use Rattle.rules.specs.declared.Plant.{Plant}
use Rattle.rules.specs.declared.Refusal.TheVariants.{ShortMemory}
use Rattle.rules.specs.declared.Tables.{Tables}
use Rattle.rules.specs.Limits.{guest_limit, extent_limit, source_limit}
use Rattle.rules.specs.Kept.{guest_at, plant_at, extent_at, source_at, extents_of, hollow_guest, with_plant}
use Rattle.rules.specs.Real.{valid, sight_of}
use Rattle.rules.specs.Rulings.{Ruling, outcome_of, ◌or_refuse◌then◌}
use Rattle.rules.specs.Image.{run_at, shares_before, pages_shared, twins, named_before, source_twice}
use Rattle.rules.specs.Tables.{list_right, guest_blank, guest_keeps, keep_rules}
use Rattle.rules.specs.Host.{HostOutcome, plant_rule, owner_of, long_enough, answered_by, host_rule, host_outcome_of, host_event}
use Rattle.rules.specs.Scan.{is_found}
use Rattle.rules.proofs.Scan.{some_same, first_same}
use Rattle.rules.proofs.Tests.{and_left, and_right}
use Rattle.tables.proofs.SoundTables.{extents_keep_lem, plant_keeps_lem}
use Rattle.kept.proofs.Lists.{set_either, list_replaced}
use Rattle.kept.proofs.Plants.{Kept}
use Rattle.kept.proofs.Events.{plant_fine}

-- a guest's plant put back
module _ (tables : Tables) (keep : keep_rules tables ≡ true) (g : ℕ) (there : g < tables.guests) (after : Plant) (k : Kept (valid (extents_of tables g)) (plant_at tables g) after) where
  abbrev next : Tables
  next = with_plant tables g after

  abbrev put : Guest
  put = record { extents = (guest_at tables g).extents; plant = after }

  abbrev guests_part : Bool
  guests_part = list_right guest_limit tables.guests (λ j. guest_keeps (guest_at tables j)) (λ j. guest_blank (guest_at tables j))

  -- what the guests' lists tell of the whole host is what it was
  pub extents_same : (j : ℕ) → (guest_at next j).extents ≡ (guest_at tables j).extents
  extents_same j = set_either (λ x. x.extents ≡ (guest_at tables j).extents) tables.guest g j put hollow_guest (λ q. rw q) refl

  pub core_stays : (j : ℕ) → (plant_at tables j).versions.core ≤ (plant_at next j).versions.core
  core_stays j = set_either (λ x. (plant_at tables j).versions.core ≤ x.plant.versions.core) tables.guest g j put hollow_guest (λ q. rw q k.core) (omega arith)

  pub cpus_same : (j : ℕ) → (plant_at next j).cpus ≡ (plant_at tables j).cpus
  cpus_same j = set_either (λ x. x.plant.cpus ≡ (plant_at tables j).cpus) tables.guest g j put hollow_guest (λ q. rw q k.cpus) refl

  pub sources_same : (j : ℕ) → (plant_at next j).sources ≡ (plant_at tables j).sources
  sources_same j = set_either (λ x. x.plant.sources ≡ (plant_at tables j).sources) tables.guest g j put hollow_guest (λ q. rw q k.sources) refl

  pub handle_same : (j i : ℕ) → (source_at (plant_at next j) i).devhandle ≡ (source_at (plant_at tables j) i).devhandle
  handle_same j i = set_either (λ x. (source_at x.plant i).devhandle ≡ (source_at (plant_at tables j) i).devhandle) tables.guest g j put hollow_guest (λ q. rw q (k.named i).0) refl

  pub devino_same : (j i : ℕ) → (source_at (plant_at next j) i).devino ≡ (source_at (plant_at tables j) i).devino
  devino_same j i = set_either (λ x. (source_at x.plant i).devino ≡ (source_at (plant_at tables j) i).devino) tables.guest g j put hollow_guest (λ q. rw q (k.named i).1) refl

  run_same : (n : ℕ) → run_at next n ≡ run_at tables n
  unfolding run_at
  run_same n = ap (λ (e : Extents). extent_at e (n % extent_limit)) (extents_same (n / extent_limit))

  pages_same : pages_shared next ≡ pages_shared tables
  unfolding shares_before
  pages_same = ap is_found (first_same _ _ (guest_limit * extent_limit) (λ j _. some_same _ _ j (λ i _. rw (run_same i, run_same j))))

  twins_same : (i j : ℕ) → twins next i j ≡ twins tables i j
  unfolding twins
  twins_same i j =
      rw (
        sources_same (i / source_limit),
        handle_same (i / source_limit) (i % source_limit),
        handle_same (j / source_limit) (j % source_limit),
        devino_same (i / source_limit) (i % source_limit),
        devino_same (j / source_limit) (j % source_limit),
      )

  twice_same : source_twice next ≡ source_twice tables
  unfolding named_before
  twice_same = ap is_found (first_same _ _ (guest_limit * source_limit) (λ j _. rw (sources_same (j / source_limit), some_same _ (λ i. twins tables i j) j (λ i _. twins_same i j))))

  put_keeps : guest_keeps put ≡ true
  unfolding guest_keeps
  put_keeps = rw (extents_keep_lem tables keep g there) k.keeps

  tables_kept : keep_rules next ≡ true
  unfolding keep_rules
  tables_kept = rw (places, pages_same, twice_same) (and_right guests_part _ keep)
    where
      places : list_right guest_limit tables.guests (λ j. guest_keeps (guest_at next j)) (λ j. guest_blank (guest_at next j)) ≡ true
      places = list_replaced guest_limit tables.guests guest_keeps guest_blank tables.guest g put hollow_guest (and_left guests_part _ keep) there put_keeps

module _ (tables : Tables) (memory : List ℕ) (event : Event) (keep : keep_rules tables ≡ true) where
  abbrev left : Ruling HostOutcome → Tables
  left x = (host_outcome_of tables memory x).tables

  owner_keeps : (w : Option ℕ) → keep_rules (left (answered_by tables memory event w)) ≡ true
  owner_keeps None = keep
  owner_keeps (Some g) = go (ltb g tables.guests) refl
    where
      go : (t : Bool) → ltb g tables.guests ≡ t → keep_rules (left (answered_by tables memory event (Some g))) ≡ true
      go true e =
          let h : g < tables.guests = ltb-true g tables.guests e in
          rw e
          (tables_kept tables keep g h (outcome_of (plant_at tables g) (plant_rule (sight_of (extents_of tables g) memory) (plant_at tables g) event)).plant
          (plant_fine (sight_of (extents_of tables g) memory) (plant_at tables g) (plant_keeps_lem tables keep g h) event))
      go false e = rw e keep

  -- Every event, refused or not, leaves tables that keep the rules.
  pub event_keeps : keep_rules (host_event tables memory event).tables ≡ true
  unfolding host_event host_rule
  event_keeps = rw keep (go (long_enough tables (length memory)))
    where
      go : (t : Bool) → keep_rules (left (t or_refuse ShortMemory then answered_by tables memory event (owner_of tables event))) ≡ true
      go true = owner_keeps (owner_of tables event)
      go false = keep
