-- Promise: isolation (demand 2). No event changes a record or a byte of a guest other than its own.
use Rattle.std.specs.Prelude.{if◌then◌else◌, Option, Some, None}
use mathlib.Core.Path.{◌≡◌, refl, sym, ap, ◌∙◌}
use mathlib.Core.Bool.{Bool, true, false, false≢true}
use mathlib.Core.List.{List}
use Prim.Native.Nat.{ℕ, ◌≤◌, ◌<◌}
use native.Mathlib.Omega.{arith}
use lib.Dec.{leb, eqb, ltb}
use lib.ListN.{length}
use lib.Seq.{get_or-set_other}
use borrow.Author.Tests.{eqb-true, ltb-true, ltb-false, le-ltb, eq-eqb}
use Rattle.rules.specs.declared.Event.{Event}
use Rattle.rules.specs.declared.Refusal.{Refusal}
use Rattle.rules.specs.declared.Refusal.TheVariants.{BadTables, ShortMemory}
use Rattle.rules.specs.declared.Tables.{Tables}
use Rattle.rules.specs.Limits.{guest_limit, extent_limit}
use Rattle.rules.specs.Kept.{guest_at, plant_at, extents_of, hollow_guest}
use Rattle.rules.specs.Real.{sight_of}
use Rattle.rules.specs.Rulings.{refused, outcome_of}
use Rattle.rules.specs.Tables.{list_right, extents_blank, guest_blank, guest_keeps, keep_rules}
use Rattle.rules.specs.Host.{HostOutcome, plant_rule, owner_of, long_enough, host_rule, host_event}
use Rattle.rules.proofs.Scan.{all_at}
use Rattle.rules.proofs.Tests.{and_left, and_right}
use Rattle.memory.specs.Cells.{cell, owns}
use Rattle.memory.proofs.Isolation.{apply_other}
use Rattle.memory.proofs.Checked.{guests_strangers}
use Rattle.tables.proofs.SoundTables.{guests_few, pages_apart}
use Rattle.kept.proofs.Settled.{settled, event_settled, few}
use Rattle.promises.specs.Words.{Passes, is_owner, belongs, Unchanged, Untouched}
use Rattle.promises.specs.Promises.{Isolation, NobodysBytes, RefusedAtTheDoor}

-- what the test of the owner tells
pub owner_told : (g : ℕ) (w : Option ℕ) → is_owner g w ≡ true → w ≡ Some g
owner_told g None e = absurd (false≢true e)
owner_told g (Some h) e = ap Some (eqb-true h g e)

pub owner_not : (g : ℕ) (w : Option ℕ) → is_owner g w ≡ false → w ≡ Some g → ⊥
owner_not g w e q = false≢true (sym e ∙ ap (is_owner g) q ∙ eq-eqb g g refl)

-- An event that is refused at the door, among them a raise that answers 104, changes nothing at all.
pub refused_at_the_door : RefusedAtTheDoor
unfolding host_event
refused_at_the_door tables memory event r e = rw e (refl, refl)

-- a place below the limit where no guest is has no extent
absent_none : (tables : Tables) → keep_rules tables ≡ true → (f : ℕ) → f < guest_limit → tables.guests ≤ f → (guest_at tables f).extents.extents ≡ 0
unfolding keep_rules list_right guest_blank extents_blank
absent_none tables keep f h l =
    let guests = and_left (list_right guest_limit tables.guests (λ g. guest_keeps (guest_at tables g)) (λ g. guest_blank (guest_at tables g))) _ keep in
    let place = all_at (λ g. if ltb g tables.guests then guest_keeps (guest_at tables g) else guest_blank (guest_at tables g)) guest_limit f (and_right (leb tables.guests guest_limit) _ guests) h in
    eqb-true _ 0 (and_left (eqb (guest_at tables f).extents.extents 0) _ (and_left (extents_blank (guest_at tables f).extents) _ (rw (le-ltb f tables.guests l) at place)))

module _ (tables : Tables) (memory : List ℕ) (event : Event) (keep : keep_rules tables ≡ true) (long : long_enough tables (length memory) ≡ true) where
  -- a host offset that is none of the owner's keeps its byte
  byte_kept : (w : Option ℕ) (k : ℕ) → ((g : ℕ) → g < tables.guests → w ≡ Some g → owns (extents_of tables g) k ≡ false) → cell (settled tables memory event keep long w).memory k ≡ cell memory k
  byte_kept None k other = refl
  byte_kept (Some g) k other = go (ltb g tables.guests) refl
    where
      go : (t : Bool) → ltb g tables.guests ≡ t → cell (settled tables memory event keep long (Some g)).memory k ≡ cell memory k
      go true e =
          rw e
          (apply_other (extents_of tables g) k (other g (ltb-true g tables.guests e) refl)
          (outcome_of (plant_at tables g) (plant_rule (sight_of (extents_of tables g) memory) (plant_at tables g) event)).writes memory)
      go false e = rw e

  record_kept : (w : Option ℕ) (f : ℕ) → (w ≡ Some f → ⊥) → guest_at (settled tables memory event keep long w).tables f ≡ guest_at tables f
  record_kept None f other = refl
  record_kept (Some g) f other = go (ltb g tables.guests) refl
    where
      go : (t : Bool) → ltb g tables.guests ≡ t → guest_at (settled tables memory event keep long (Some g)).tables f ≡ guest_at tables f
      go true e = rw e (get_or-set_other tables.guest g f _ hollow_guest (λ q. other (ap Some (sym q))))
      go false e = rw e

  place_few : (f : ℕ) → f < guest_limit → (guest_at tables f).extents.extents ≤ extent_limit
  place_few f h = go (ltb f tables.guests) refl
    where
      go : (t : Bool) → ltb f tables.guests ≡ t → (guest_at tables f).extents.extents ≤ extent_limit
      go true e = few tables memory event keep long f (ltb-true f tables.guests e)
      go false e = omega (arith, absent_none tables keep f h (ltb-false f tables.guests e))

  passing_untouched : (f : ℕ) → f < guest_limit → belongs tables f event ≡ false → Untouched tables memory f (host_event tables memory event)
  passing_untouched f h foreign =
      let limit : tables.guests ≤ guest_limit = guests_few tables keep in
      let other : (owner_of tables event ≡ Some f → ⊥) = owner_not f (owner_of tables event) foreign in
      record {
        kept = ap (λ (o : HostOutcome). guest_at o.tables f) (event_settled tables memory event keep long) ∙ record_kept (owner_of tables event) f other;
        bytes = λ k own. ap (λ (o : HostOutcome). cell o.memory k) (event_settled tables memory event keep long)
            ∙ byte_kept (owner_of tables event) k (λ g l e.
            guests_strangers tables g f (omega arith) h (few tables memory event keep long g l) (place_few f h) (pages_apart tables keep)
            (λ q. other (e ∙ ap Some q)) k own);
      }

  passing_nobodys : (k : ℕ) → ((g : ℕ) → g < tables.guests → owns (extents_of tables g) k ≡ false) → cell (host_event tables memory event).memory k ≡ cell memory k
  passing_nobodys k other = ap (λ (o : HostOutcome). cell o.memory k) (event_settled tables memory event keep long) ∙ byte_kept (owner_of tables event) k (λ g h e. other g h)

-- What holds of a host that passes 101 and 102, and of one of which nothing changes, holds of every host: those that do not pass
-- are refused, and stay as they are.
module _ (tables : Tables) (memory : List ℕ) (event : Event) where
  refused_bad : keep_rules tables ≡ false → host_rule tables memory event ≡ refused BadTables
  unfolding host_rule
  refused_bad e = rw e

  refused_short : keep_rules tables ≡ true → long_enough tables (length memory) ≡ false → host_rule tables memory event ≡ refused ShortMemory
  unfolding host_rule
  refused_short e l = rw (e, l)

  pub every_host : {P : HostOutcome → Type 0} → (Passes tables memory → P (host_event tables memory event)) → ((o : HostOutcome) → Unchanged tables memory o → P o) → P (host_event tables memory event)
  every_host {P} passing still = go (keep_rules tables) refl (long_enough tables (length memory)) refl
    where
      same : (r : Refusal) → host_rule tables memory event ≡ refused r → P (host_event tables memory event)
      same r e = still (host_event tables memory event) (refused_at_the_door tables memory event r e)

      go : (t : Bool) → keep_rules tables ≡ t → (u : Bool) → long_enough tables (length memory) ≡ u → P (host_event tables memory event)
      go true e true l = passing (record { keep = e; long = l })
      go true e false l = same ShortMemory (refused_short e l)
      go false e u l = same BadTables (refused_bad e)

-- For every place that the event does not belong to: its record is the same, and so is every byte in its extents' host pages.
pub isolation : Isolation
isolation tables memory event g h foreign =
    every_host tables memory event {P = λ o. Untouched tables memory g o}
    (λ p. passing_untouched tables memory event p.keep p.long g h foreign)
    (λ o n. record { kept = ap (λ (t : Tables). guest_at t g) n.0; bytes = λ k own. ap (λ (m : List ℕ). cell m k) n.1 })

-- Bytes in nobody's pages are the same.
pub nobodys_bytes : NobodysBytes
nobodys_bytes tables memory event k other =
    every_host tables memory event {P = λ o. cell o.memory k ≡ cell memory k}
    (λ p. passing_nobodys tables memory event p.keep p.long k other)
    (λ o n. ap (λ (m : List ℕ). cell m k) n.1)
