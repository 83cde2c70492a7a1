-- Promise: what is left that keeps a raise from being delivered, now that each source has a target (request No. 7).
use Rattle.std.specs.Prelude.{if◌then◌else◌, Option, Some, None}
use mathlib.Core.Path.{◌≡◌, refl}
use mathlib.Core.Bool.{Bool, true, false, ◌&&◌}
use mathlib.Core.List.{List}
use mathlib.Core.Logic.{◌⊎◌, inl, inr, ⊎_elim}
use Prim.Native.Nat.{ℕ, ◌<◌}
use native.Mathlib.Omega.{arith}
use lib.Dec.{eqb}
use borrow.Author.Tests.{leb-true, ltb-true, eqb-false}
use Rattle.rules.specs.declared.Answer.TheVariants.{One, Refused}
use Rattle.rules.specs.declared.Device.{Device}
use Rattle.rules.specs.declared.Event.{Event}
use Rattle.rules.specs.declared.Plant.{Plant}
use Rattle.rules.specs.declared.QueueRecord.{QueueRecord}
use Rattle.rules.specs.declared.Refusal.{Refusal}
use Rattle.rules.specs.declared.Refusal.TheVariants.{NoSource}
use Rattle.rules.specs.declared.Tables.{Tables}
use Rattle.rules.specs.Kept.{plant_at, cpu_at, queue_at, source_at}
use Rattle.rules.specs.Rulings.{granted, Outcome, outcome_of, says, ◌grants◌}
use Rattle.rules.specs.Queues.{index_of, has_room, PutIn, put_in, put}
use Rattle.rules.specs.Sources.{found, sysino_of, device_entry, raise_at, raise}
use Rattle.rules.specs.Tables.{keep_rules}
use Rattle.rules.specs.Host.{plant_rule, owner_of}
use Rattle.rules.proofs.Scan.{first_below_lem}
use Rattle.tables.proofs.SoundTables.{plant_keeps_lem}
use Rattle.kept.proofs.Plants.{source_there}
use Rattle.kept.proofs.Sources.{enabled_part}
use Rattle.promises.specs.Words.{NoRoom, Received}
use Rattle.promises.specs.Promises.{ReceivedWhy}
use Rattle.promises.proofs.Door.{at_door}

-- an entry that finds no room
no_room : (q : QueueRecord) (entry : List ℕ) → (put_in q entry).room ≡ false → NoRoom q
unfolding put_in
no_room QueueRecord.Unset entry e = tt
no_room (QueueRecord.Set ring) entry e = go (has_room ring) _ _ refl e
  where
    go : (t : Bool) (x y : PutIn) → x.room ≡ true → (if◌then◌else◌ {A = PutIn} t x y).room ≡ false → t ≡ false
    go true x y h f = cc
    go false x y h f = refl

-- no refusal answers 1
never : {A : Type 0} (r : Refusal) → Refused r ≡ One 1 → A
never r e = let z : ◌≡◌ {A = ℕ} 0 1 = cc in absurd (omega arith)

module _ (plant : Plant) (i : ℕ) where
  -- a raise that answers 1 failed one of its two tests: a raise that finds the source delivered, or delivers, answers 2
  one_fails : (delivered on room : Bool) (o : Outcome) (p : Plant) → o.answer ≡ One 2
      → (outcome_of plant (if delivered then says (One 2) plant else if on && room then granted o else says (One 1) p)).answer ≡ One 1
      → (on ≡ false) ⊎ (room ≡ false)
  one_fails true on room o p two e = let z : ◌≡◌ {A = ℕ} 0 1 = cc in absurd (omega arith)
  one_fails false true true o p two e = let z : ◌≡◌ {A = ℕ} 0 1 = cc in absurd (omega arith)
  one_fails false true false o p two e = inr refl
  one_fails false false room o p two e = inl refl

  not_delivered : (outcome_of plant (raise_at plant i)).answer ≡ One 1
      → ((source_at plant i).enabled ≡ 1 → ⊥) ⊎ NoRoom (queue_at (cpu_at plant (source_at plant i).target) (index_of 0x3d))
  unfolding raise_at put
  not_delivered e =
      ⊎_elim (λ on. inl (eqb-false (source_at plant i).enabled 1 on)) (λ room. inr (no_room _ _ room))
      (one_fails (eqb (source_at plant i).state 2) (eqb (source_at plant i).enabled 1) (put plant (source_at plant i).target 0x3d (device_entry plant i)).room _ _ refl e)

-- the guest that has the source
module _ (tables : Tables) (d : Device) (keep : keep_rules tables ≡ true) (g : ℕ) (there : g < tables.guests) (owner : owner_of tables (Event.Raise d) ≡ Some g) where
  abbrev plant : Plant
  plant = plant_at tables g

  -- enabled is 0 or 1
  off : (i : ℕ) → sysino_of plant d.devhandle d.devino ≡ Some i → ((source_at plant i).enabled ≡ 1 → ⊥) → (source_at plant i).enabled ≡ 0
  unfolding sysino_of
  off i at n =
      let right = source_there _ plant (plant_keeps_lem tables keep g there) i (first_below_lem plant.sources i _ at) in
      omega (arith, n, leb-true (source_at plant i).enabled 1 (enabled_part plant (source_at plant i) right))

  by_source : (f : Option ℕ) → sysino_of plant d.devhandle d.devino ≡ f → (outcome_of plant (found NoSource f grants λ i. raise_at plant i)).answer ≡ One 1 → Received tables d
  by_source None at e = never NoSource e
  by_source (Some i) at e = record {
    guest = g;
    source = i;
    owner = owner;
    found = at;
    why = ⊎_elim (λ n. inl (off i at n)) inr (not_delivered plant i e);
  }

pub received_why : ReceivedWhy
unfolding plant_rule raise
received_why tables memory d =
    at_door (λ o. o.answer ≡ One 1 → Received tables d) tables memory (Event.Raise d) (λ r _ e. never r e) (λ g keep there owner e.
    by_source tables d keep g (ltb-true g tables.guests there) owner _ refl e)
