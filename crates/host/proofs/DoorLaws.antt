-- The host's rule at each return of the code, and in the steps that a session takes one by one.
use Rattle.std.proofs.Common.{if◌then◌else◌, Option, Some, None, Ok, Err, is_ok}
use mathlib.Core.Path.{◌≡◌, refl, sym, ap, ◌∙◌}
use mathlib.Core.Bool.{Bool, true, false, false≢true}
use mathlib.Core.List.{List}
use Prim.Native.Nat.{ℕ, ◌≤◌, ◌<◌}
use native.Mathlib.Omega.{arith}
use lib.Dec.{ltb}
use lib.ListN.{length}
use borrow.Author.Tests.{ltb-true}
use Rattle.rules.specs.declared.Answer.TheVariants.{Refused}
use Rattle.rules.specs.declared.Event.{Event}
use Rattle.rules.specs.declared.Plant.{Plant}
use Rattle.rules.specs.declared.Refusal.{Refusal}
use Rattle.rules.specs.declared.Refusal.TheVariants.{BadTables, ShortMemory, NoCaller, NoSource}
use Rattle.rules.specs.declared.Tables.{Tables}
use Rattle.rules.specs.Kept.{guest_at, plant_at, extents_of, with_plant}
use Rattle.rules.specs.Real.{sight_of}
use Rattle.rules.specs.Rulings.{Ruling, refused, granted, outcome_of, ◌or_refuse◌then◌}
use Rattle.rules.specs.Tables.{keep_rules}
use Rattle.rules.specs.Limits.{guest_limit, cpu_limit, source_limit}
use Rattle.rules.specs.Host.{HostOutcome, plant_rule, put_back, answered_by, owner_of, long_enough, host_rule, host_event}
use Rattle.tables.proofs.SoundTables.{guests_few, plant_keeps_lem, sound}
use Rattle.records.proofs.SoundLaws.{plant_sources}
use Rattle.records.specs.Verdict.{Verdict}
use Rattle.records.specs.Sound.{Sound}
use Rattle.plants.specs.declared.change.Done.{Done}
use Rattle.plants.specs.Changes.{plant_after}
use Rattle.plants.specs.Follows.{Follows}
use Rattle.host.specs.declared.Settled.{Settled}
use Rattle.host.specs.Owners.{Counted}
use Rattle.host.specs.Seats.{Seat, door_of, seat_for, seat_of}
use Rattle.host.specs.Settles.{Settles}

-- tables that keep the rules have no more guests and sources than there are places
pub counted : (tables : Tables) → keep_rules tables ≡ true → Counted tables.guests tables.guest
counted tables k = record { few = guests_few tables k; each = λ g h. plant_sources _ _ (plant_keeps_lem tables k g h) }

not_guest : (r : Refusal) (g : ℕ) → ◌≡◌ {A = Seat} (Err r) (Ok g) → ⊥
not_guest r g e = let z : ◌≡◌ {A = ℕ} 0 1 = cc in absurd (omega arith)

same_guest : (h g : ℕ) → ◌≡◌ {A = Seat} (Ok h) (Ok g) → h ≡ g
same_guest h g e = cc

-- What the door and the seat tell of the tables, and of memory of n bytes.
module _ (tables : Tables) (n : ℕ) where
  -- the tables keep the rules, and the memory is long enough
  pub door_tells : is_ok (door_of tables n) ≡ true → (keep_rules tables ≡ true) × (long_enough tables n ≡ true)
  unfolding door_of
  door_tells = go (keep_rules tables) (long_enough tables n)
    where
      go : (k l : Bool) → is_ok {T = Unit} {E = Refusal} (if k then if l then Ok tt else Err ShortMemory else Err BadTables) ≡ true → (k ≡ true) × (l ≡ true)
      go true true h = (refl, refl)
      go true false h = absurd (false≢true h)
      go false l h = absurd (false≢true h)

  -- a seat at a guest tells that the door was right and the guest is there
  pub seat_told : (event : Event) (e : Verdict) (g : ℕ) → seat_of tables e event ≡ Ok g → (is_ok e ≡ true) × (g < tables.guests)
  unfolding seat_of seat_for
  seat_told event (Err r) g s = absurd (not_guest r g s)
  seat_told event (Ok u) g s = (refl, seat_there (owner_of tables event) g s)
    where
      there : (h g : ℕ) (t : Bool) → ltb h tables.guests ≡ t → (if t then Ok h else Err NoCaller) ≡ Ok g → g < tables.guests
      there h g true e s = rw (← same_guest h g s) (ltb-true h tables.guests e)
      there h g false e s = absurd (not_guest NoCaller g s)

      seat_there : (o : Option ℕ) (g : ℕ) → seat_for tables.guests o ≡ Ok g → g < tables.guests
      seat_there None g s = absurd (not_guest NoSource g s)
      seat_there (Some h) g s = there h g (ltb h tables.guests) refl s

  pub seat_sound : (event : Event) (g : ℕ) → seat_of tables (door_of tables n) event ≡ Ok g → (g < guest_limit) × Sound (guest_at tables g).extents (plant_at tables g) n
  seat_sound event g s =
      let told = seat_told event (door_of tables n) g s in
      let right = door_tells told.0 in
      let limit : tables.guests ≤ guest_limit = guests_few tables right.0 in
      let there : g < tables.guests = told.1 in
      (omega arith, sound tables right.0 g there n right.1)

-- What they tell of the event.
module _ (tables : Tables) (m : List ℕ) (event : Event) where
  abbrev pub door : Verdict
  door = door_of tables (length m)

  -- what the plant of guest g comes to, put back
  abbrev pub guest_outcome : ℕ → HostOutcome
  guest_outcome g = put_back tables m g (outcome_of (plant_at tables g) (plant_rule (sight_of (extents_of tables g) m) (plant_at tables g) event))

  abbrev ruled : Seat → Ruling HostOutcome
  ruled (Err r) = refused r
  ruled (Ok g) = granted (guest_outcome g)

  guest_ruled : (g : ℕ) (t : Bool) → ltb g tables.guests ≡ t → answered_by tables m event (Some g) ≡ ruled (if t then Ok g else Err NoCaller)
  guest_ruled g true e = rw e
  guest_ruled g false e = rw e

  owner_ruled : (o : Option ℕ) → answered_by tables m event o ≡ ruled (seat_for tables.guests o)
  unfolding seat_for
  owner_ruled None = refl
  owner_ruled (Some g) = guest_ruled g (ltb g tables.guests) refl

  door_ruled : (k l : Bool) → (k or_refuse BadTables then l or_refuse ShortMemory then answered_by tables m event (owner_of tables event))
      ≡ ruled (seat_of tables (if k then if l then Ok tt else Err ShortMemory else Err BadTables) event)
  unfolding seat_of
  door_ruled true true = owner_ruled (owner_of tables event)
  door_ruled true false = refl
  door_ruled false l = refl

  seat_ruled : host_rule tables m event ≡ ruled (seat_of tables door event)
  unfolding host_rule door_of
  seat_ruled = door_ruled (keep_rules tables) (long_enough tables (length m))

  -- an event that is refused at its seat changes nothing
  pub seat_refuses : (r : Refusal) → seat_of tables door event ≡ Err r → host_event tables m event ≡ record { answer = Refused r; tables = tables; memory = m }
  unfolding host_event
  seat_refuses r s = rw (seat_ruled, s)

  pub seat_answers : (g : ℕ) → seat_of tables door event ≡ Ok g → host_event tables m event ≡ guest_outcome g
  unfolding host_event
  seat_answers g s = rw (seat_ruled, s)

  -- the owner's plant answered
  pub seat_follows : (g : ℕ) (d : Done) (after : List ℕ) → seat_of tables door event ≡ Ok g
      → Follows (guest_at tables g).extents (plant_at tables g) (plant_rule (sight_of (extents_of tables g) m) (plant_at tables g) event) m d after
      → host_event tables m event ≡ record { answer = d.answer; tables = with_plant tables g (plant_after (plant_at tables g) d); memory = after }
  seat_follows g d after s f =
      seat_answers g s ∙ (λ i. record { answer = sym f.answer i; tables = with_plant tables g (sym f.plant i); memory = sym f.memory i })

-- The same, as the code holds it: e is the door and x the seat.
module _ (tables : Tables) (n : ℕ) (e : Verdict) (p : e ≡ door_of tables n) where
  pub right_keeps : is_ok e ≡ true → keep_rules tables ≡ true
  right_keeps h = (door_tells tables n (ap is_ok (sym p) ∙ h)).0

  module _ (event : Event) (g : ℕ) (q : Ok g ≡ seat_of tables e event) where
    seat_is : seat_of tables (door_of tables n) event ≡ Ok g
    seat_is = ap (λ (v : Verdict). seat_of tables v event) (sym p) ∙ sym q

    pub guest_below : g < guest_limit
    guest_below = (seat_sound tables n event g seat_is).0

    pub guest_sound : Sound (guest_at tables g).extents (plant_at tables g) n
    guest_sound = (seat_sound tables n event g seat_is).1

    pub guest_cpus : (plant_at tables g).cpus ≤ cpu_limit
    guest_cpus = guest_sound.cpus

    pub guest_sources : (plant_at tables g).sources ≤ source_limit
    guest_sources = guest_sound.sources

module _ (tables : Tables) (m : List ℕ) (e : Verdict) (p : e ≡ door_of tables (length m)) (event : Event) (s : Settled) where
  pub settles_refused : (r : Refusal) → Err r ≡ seat_of tables e event → s ≡ record { answer = Refused r; tables = tables } → Settles (host_event tables m event) s m
  settles_refused r q f =
      rw (seat_refuses tables m event r (ap (λ (v : Verdict). seat_of tables v event) (sym p) ∙ sym q), f) (record { answer = refl; tables = refl; memory = refl })

  pub settles_answered : (g : ℕ) → Ok g ≡ seat_of tables e event → (d : Done) (after : List ℕ)
      → Follows (guest_at tables g).extents (plant_at tables g) (plant_rule (sight_of (extents_of tables g) m) (plant_at tables g) event) m d after
      → s.answer ≡ d.answer → (next : Plant) → next ≡ plant_after (plant_at tables g) d → s.tables ≡ with_plant tables g next → Settles (host_event tables m event) s after
  settles_answered g q d after f a next n t =
      rw (seat_follows tables m event g d after (seat_is tables (length m) e p event g q) f) (record { answer = a; tables = t ∙ ap (with_plant tables g) n; memory = refl })
