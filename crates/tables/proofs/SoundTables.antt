-- The link, once, from the check of 101 and 102 to the facts that the calls need of a guest.
use mathlib.Core.Path.{◌≡◌}
use mathlib.Core.Bool.{Bool, true, false, not}
use Prim.Native.Nat.{ℕ, ◌≤◌, ◌<◌}
use native.Mathlib.Omega.{arith}
use lib.Dec.{leb}
use borrow.Author.Tests.{not-true}
use Rattle.rules.specs.declared.Extents.{Extents}
use Rattle.rules.specs.declared.Tables.{Tables}
use Rattle.rules.specs.Limits.{guest_limit, extent_limit}
use Rattle.rules.specs.Kept.{guest_at, plant_at, extent_at, extents_of}
use Rattle.rules.specs.Real.{valid}
use Rattle.rules.specs.Image.{extent_right, ascend, pages_shared, source_twice}
use Rattle.rules.specs.Tables.{list_right, extent_blank, guest_blank, extents_keep, plant_keeps, guest_keeps, keep_rules}
use Rattle.rules.specs.Host.{long_enough}
use Rattle.rules.proofs.Tests.{and_left, and_right}
use Rattle.memory.proofs.Checked.{guest_ready}
use Rattle.records.specs.Sound.{Sound}
use Rattle.records.proofs.SoundLaws.{list_length, list_there, plant_cpus, plant_sources, plant_rings, plant_buffers, plant_targets}

module _ (e : Extents) (p : extents_keep e ≡ true) where
  abbrev places : Bool
  places = list_right extent_limit e.extents (λ i. extent_right (extent_at e i)) (λ i. extent_blank (extent_at e i))

  pub extents_few : e.extents ≤ extent_limit
  unfolding extents_keep
  extents_few = list_length _ _ _ _ (and_left places (ascend e) (and_right (leb 1 e.extents) _ p))

  pub extents_ascend : ascend e ≡ true
  unfolding extents_keep
  extents_ascend = and_right places (ascend e) (and_right (leb 1 e.extents) _ p)

-- a guest that is there
module _ (tables : Tables) (keep : keep_rules tables ≡ true) where
  abbrev guests : Bool
  guests = list_right guest_limit tables.guests (λ g. guest_keeps (guest_at tables g)) (λ g. guest_blank (guest_at tables g))

  pub guests_right : guests ≡ true
  unfolding keep_rules
  guests_right = and_left guests _ keep

  pub guests_few : tables.guests ≤ guest_limit
  guests_few = list_length _ _ _ _ guests_right

  pub pages_apart : pages_shared tables ≡ false
  unfolding keep_rules
  pages_apart = not-true _ (and_left (not (pages_shared tables)) (not (source_twice tables)) (and_right guests _ keep))

  module _ (g : ℕ) (there : g < tables.guests) where
    keeps : guest_keeps (guest_at tables g) ≡ true
    keeps = list_there _ _ _ _ guests_right g there

    pub extents_keep_lem : extents_keep (guest_at tables g).extents ≡ true
    unfolding guest_keeps
    extents_keep_lem = and_left (extents_keep (guest_at tables g).extents) _ keeps

    pub plant_keeps_lem : plant_keeps (valid (extents_of tables g)) (plant_at tables g) ≡ true
    unfolding guest_keeps
    plant_keeps_lem = and_right (extents_keep (guest_at tables g).extents) _ keeps

    pub sound : (n : ℕ) → long_enough tables n ≡ true → Sound (guest_at tables g).extents (plant_at tables g) n
    sound n long =
        let limit : tables.guests ≤ guest_limit = guests_few in
        let few : (guest_at tables g).extents.extents ≤ extent_limit = extents_few _ extents_keep_lem in
        record {
          few = few;
          ready = guest_ready tables g (omega arith) few n (extents_ascend _ extents_keep_lem) long;
          cpus = plant_cpus _ _ plant_keeps_lem;
          sources = plant_sources _ _ plant_keeps_lem;
          rings = plant_rings _ _ plant_keeps_lem;
          buffers = plant_buffers _ _ plant_keeps_lem;
          targets = plant_targets _ _ plant_keeps_lem;
        }
