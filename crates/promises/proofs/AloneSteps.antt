-- One event, seen by one plant: what the host does for it is what the machine that has this plant alone does; what the host does
-- for another is nothing to it.
use Rattle.std.proofs.Common.{Option, Some, None}
use mathlib.Core.Path.{◌≡◌, refl, sym, ap, ◌∙◌}
use mathlib.Core.Bool.{Bool, true, false, false≢true}
use mathlib.Core.List.{List}
use Prim.Native.Nat.{ℕ, ◌≤◌, ◌<◌}
use native.Mathlib.Omega.{arith}
use lib.Dec.{ltb}
use lib.ListN.{length}
use lib.Seq.{get_or-set_same}
use borrow.Author.Tests.{ltb-true, lt-ltb}
use Rattle.rules.specs.declared.Event.{Event}
use Rattle.rules.specs.declared.Guest.{Guest}
use Rattle.rules.specs.declared.Tables.{Tables}
use Rattle.rules.specs.Limits.{guest_limit, extent_limit}
use Rattle.rules.specs.Kept.{guest_at, plant_at, extents_of, hollow_guest, with_plant}
use Rattle.rules.specs.Real.{Sight, sight_of, apply}
use Rattle.rules.specs.Rulings.{Outcome}
use Rattle.rules.specs.Tables.{extents_keep, keep_rules}
use Rattle.rules.specs.Host.{HostOutcome, owner_of, long_enough, host_event}
use Rattle.memory.specs.Ready.{present}
use Rattle.memory.proofs.Checked.{guest_ready, guest_distinct, guests_strangers}
use Rattle.memory.proofs.Isolation.{sight_unmoved}
use Rattle.memory.proofs.Sights.{own_sight}
use Rattle.tables.proofs.SoundTables.{guests_few, pages_apart, extents_keep_lem, extents_ascend}
use Rattle.kept.proofs.Lists.{placed}
use Rattle.kept.proofs.Settled.{settled, event_settled, few}
use Rattle.promises.specs.Words.{belongs}
use Rattle.promises.specs.Machine.{Machine, did, moved, machine_of}
use Rattle.promises.proofs.Isolation.{owner_told, owner_not, isolation}
use Rattle.promises.proofs.WrittenBytes.{after_written}

-- `machine_of`, by the guest's record
abbrev taken_alone : List ℕ → Guest → Machine
taken_alone memory guest = record { plant = guest.plant; sight = sight_of (present guest.extents) memory }

module _ (tables : Tables) (memory : List ℕ) (event : Event) (keep : keep_rules tables ≡ true) (long : long_enough tables (length memory) ≡ true) where
  abbrev done : ℕ → Outcome
  done g = did (machine_of tables memory g) event

  module _ (g : ℕ) (h : g < tables.guests) where
    -- a guest that is there has a place in the list
    not_hollow : guest_at tables g ≡ hollow_guest → ⊥
    unfolding extents_keep
    not_hollow q = false≢true (ap (λ (x : Guest). extents_keep x.extents) (sym q) ∙ extents_keep_lem tables keep g h)

    own_machine : machine_of (with_plant tables g (done g).plant) (apply (extents_of tables g) memory (done g).writes) g ≡ moved (machine_of tables memory g) event
    own_machine =
        let limit : tables.guests ≤ guest_limit = guests_few tables keep in
        let counted : (guest_at tables g).extents.extents ≤ extent_limit = few tables memory event keep long g h in
        ap (taken_alone (apply (extents_of tables g) memory (done g).writes))
        (get_or-set_same tables.guest g (record { extents = (guest_at tables g).extents; plant = (done g).plant }) hollow_guest (placed tables.guest g hollow_guest not_hollow))
        ∙ ap (λ (s : Sight). record { plant = (done g).plant; sight = s })
        (own_sight (extents_of tables g) (guest_distinct tables g (omega arith) counted (pages_apart tables keep)) (done g).writes memory
        (guest_ready tables g (omega arith) counted (length memory) (extents_ascend _ (extents_keep_lem tables keep g h)) long).long
        ∙ after_written (done g).writes (sight_of (extents_of tables g) memory))

    -- An event of its own: the host answers as the machine does, and leaves what it leaves.
    pub own_step : belongs tables g event ≡ true
        → ((host_event tables memory event).answer ≡ (done g).answer)
        × (machine_of (host_event tables memory event).tables (host_event tables memory event).memory g ≡ moved (machine_of tables memory g) event)
    own_step own = rw (event_settled tables memory event keep long, owner_told g (owner_of tables event) own, lt-ltb g tables.guests h) (refl, own_machine)

    -- An event of another: the machine is what it was.
    others_sight : (w : Option ℕ) → (w ≡ Some g → ⊥) → sight_of (extents_of tables g) (settled tables memory event keep long w).memory ≡ sight_of (extents_of tables g) memory
    others_sight None other = refl
    others_sight (Some f) other = go (ltb f tables.guests) refl
      where
        go : (t : Bool) → ltb f tables.guests ≡ t → sight_of (extents_of tables g) (settled tables memory event keep long (Some f)).memory ≡ sight_of (extents_of tables g) memory
        go true e =
            let limit : tables.guests ≤ guest_limit = guests_few tables keep in
            let there : f < tables.guests = ltb-true f tables.guests e in
            rw e
            (sight_unmoved (extents_of tables f) (extents_of tables g)
            (guests_strangers tables f g (omega arith) (omega arith) (few tables memory event keep long f there) (few tables memory event keep long g h) (pages_apart tables keep)
            (λ q. other (ap Some q)))
            (done f).writes memory)
        go false e = rw e

    pub other_step : belongs tables g event ≡ false → machine_of (host_event tables memory event).tables (host_event tables memory event).memory g ≡ machine_of tables memory g
    other_step foreign =
        let limit : tables.guests ≤ guest_limit = guests_few tables keep in
        ap (taken_alone (host_event tables memory event).memory) (isolation tables memory event g (omega arith) foreign).kept
        ∙ ap (λ (s : Sight). record { plant = plant_at tables g; sight = s })
        (ap (λ (o : HostOutcome). sight_of (extents_of tables g) o.memory) (event_settled tables memory event keep long) ∙ others_sight (owner_of tables event) (owner_not g (owner_of tables event) foreign))
