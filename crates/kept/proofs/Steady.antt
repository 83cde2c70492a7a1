-- Promise: what no event changes. So an event that finds memory long enough leaves it so for the next one.
use Rattle.std.proofs.Common.{Option, Some, None}
use mathlib.Core.Path.{◌≡◌, refl, ap, ◌∙◌, fun_ext}
use mathlib.Core.Bool.{Bool, true, false}
use mathlib.Core.List.{List}
use Prim.Native.Nat.{ℕ, ◌*◌, ◌/◌, ◌%◌, ◌≤◌, ◌<◌}
use native.Mathlib.Omega.{arith}
use lib.Dec.{ltb}
use lib.ListN.{length}
use borrow.Author.Tests.{ltb-true}
use Rattle.rules.specs.declared.Event.{Event}
use Rattle.rules.specs.declared.Extents.{Extents}
use Rattle.rules.specs.declared.Tables.{Tables}
use Rattle.rules.specs.Limits.{guest_limit, extent_limit}
use Rattle.rules.specs.Scan.{all_below, first_below, is_found}
use Rattle.rules.specs.Kept.{guest_at, plant_at, extent_at, source_at, extents_of}
use Rattle.rules.specs.Real.{sight_of, valid}
use Rattle.rules.specs.Rulings.{Outcome, outcome_of}
use Rattle.rules.specs.Image.{run_at}
use Rattle.rules.specs.Sources.{sysino_of}
use Rattle.rules.specs.Tables.{keep_rules}
use Rattle.rules.specs.Host.{plant_rule, owner_of, long_enough, host_event}
use Rattle.memory.proofs.Writes.{apply_length}
use Rattle.tables.proofs.SoundTables.{plant_keeps_lem}
use Rattle.kept.proofs.Settled.{settled, event_settled}
use Rattle.kept.proofs.Plants.{Kept}
use Rattle.kept.proofs.Events.{plant_fine}
use Rattle.kept.proofs.Tables.{extents_same, core_stays, cpus_same, sources_same, handle_same, devino_same}

-- What no event changes: how many guests there are, their extents, their cpus, and their sources' names. Nor does any take group 1
-- back from a guest that negotiated it.
pub record Steady (a b : Tables) : Type 0 where
  pub guests : b.guests ≡ a.guests
  pub extents : (j : ℕ) → (guest_at b j).extents ≡ (guest_at a j).extents
  pub core : (j : ℕ) → (plant_at a j).versions.core ≤ (plant_at b j).versions.core
  pub cpus : (j : ℕ) → (plant_at b j).cpus ≡ (plant_at a j).cpus
  pub sources : (j : ℕ) → (plant_at b j).sources ≡ (plant_at a j).sources
  pub handle : (j i : ℕ) → (source_at (plant_at b j) i).devhandle ≡ (source_at (plant_at a j) i).devhandle
  pub devino : (j i : ℕ) → (source_at (plant_at b j) i).devino ≡ (source_at (plant_at a j) i).devino

pub steady_same : (a : Tables) → Steady a a
steady_same a = record { guests = refl; extents = λ j. refl; core = λ j. omega arith; cpus = λ j. refl; sources = λ j. refl; handle = λ j i. refl; devino = λ j i. refl }

pub steady_further : (a b c : Tables) → Steady a b → Steady b c → Steady a c
steady_further a b c s t = record {
  guests = t.guests ∙ s.guests;
  extents = λ j. t.extents j ∙ s.extents j;
  core = λ j. omega (arith, s.core j, t.core j);
  cpus = λ j. t.cpus j ∙ s.cpus j;
  sources = λ j. t.sources j ∙ s.sources j;
  handle = λ j i. t.handle j i ∙ s.handle j i;
  devino = λ j i. t.devino j i ∙ s.devino j i;
}

module _ (a b : Tables) (s : Steady a b) where
  sysino_same : (j d i : ℕ) → sysino_of (plant_at b j) d i ≡ sysino_of (plant_at a j) d i
  unfolding sysino_of
  sysino_same j d i = rw (s.sources j) (ap (first_below (plant_at a j).sources) (fun_ext (λ k. rw (s.handle j k, s.devino j k))))

  pub owner_same : (event : Event) → owner_of b event ≡ owner_of a event
  unfolding owner_of
  owner_same (Event.Call c) = refl
  owner_same (Event.Head h) = refl
  owner_same (Event.Raise d) = rw s.guests (ap (λ (p : ℕ → Bool). first_below a.guests p) (fun_ext (λ j. ap is_found (sysino_same j d.devhandle d.devino))))
  owner_same (Event.Load l) = refl
  owner_same (Event.Store x) = refl
  owner_same (Event.Hit t) = refl

  run_same : (k : ℕ) → run_at b k ≡ run_at a k
  unfolding run_at
  run_same k = ap (λ (e : Extents). extent_at e (k % extent_limit)) (s.extents (k / extent_limit))

  pub long_same : (n : ℕ) → long_enough b n ≡ long_enough a n
  unfolding long_enough
  long_same n = ap (all_below (guest_limit * extent_limit)) (fun_ext (λ k. rw (run_same k)))

module _ (tables : Tables) (memory : List ℕ) (event : Event) (keep : keep_rules tables ≡ true) (long : long_enough tables (length memory) ≡ true) where
  abbrev done : ℕ → Outcome
  done g = outcome_of (plant_at tables g) (plant_rule (sight_of (extents_of tables g) memory) (plant_at tables g) event)

  fine : (g : ℕ) → g < tables.guests → Kept (valid (extents_of tables g)) (plant_at tables g) (done g).plant
  fine g h = plant_fine (sight_of (extents_of tables g) memory) (plant_at tables g) (plant_keeps_lem tables keep g h) event

  owner_steady : (w : Option ℕ) → Steady tables (settled tables memory event keep long w).tables × (length (settled tables memory event keep long w).memory ≡ length memory)
  owner_steady None = (steady_same tables, refl)
  owner_steady (Some g) = go (ltb g tables.guests) refl
    where
      go : (t : Bool) → ltb g tables.guests ≡ t → Steady tables (settled tables memory event keep long (Some g)).tables × (length (settled tables memory event keep long (Some g)).memory ≡ length memory)
      go true e =
          let h : g < tables.guests = ltb-true g tables.guests e in
          rw e (
            record {
              guests = refl;
              extents = extents_same tables keep g h (done g).plant (fine g h);
              core = core_stays tables keep g h (done g).plant (fine g h);
              cpus = cpus_same tables keep g h (done g).plant (fine g h);
              sources = sources_same tables keep g h (done g).plant (fine g h);
              handle = handle_same tables keep g h (done g).plant (fine g h);
              devino = devino_same tables keep g h (done g).plant (fine g h);
            },
            apply_length (extents_of tables g) (done g).writes memory,
          )
      go false e = rw e (steady_same tables, refl)

  pub event_steady : Steady tables (host_event tables memory event).tables × (length (host_event tables memory event).memory ≡ length memory)
  event_steady = rw (event_settled tables memory event keep long) (owner_steady (owner_of tables event))
