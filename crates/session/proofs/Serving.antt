-- The state of `feed` before a turn of its loop: where it lies, who is seated, and what the tables with that plant put back come to.
use mathlib.Core.Path.{◌≡◌, sym, subst}
use mathlib.Core.List.{List}
use Prim.Native.Nat.{ℕ, ◌<◌}
use lib.ListN.{length, take}
use Rattle.rules.specs.declared.Event.{Event}
use Rattle.rules.specs.declared.Guest.{Guest}
use Rattle.rules.specs.declared.Tables.{Tables}
use Rattle.rules.specs.Limits.{guest_limit}
use Rattle.rules.specs.Kept.{guest_at, plant_at, with_plant}
use Rattle.rules.specs.Text.{parse}
use Rattle.records.specs.Sound.{Sound}
use Rattle.host.specs.Seats.{door_of}
use Rattle.session.specs.declared.ask.Asked.{Asked}
use Rattle.session.specs.Asking.{asked}
use Rattle.records.specs.Verdict.{Verdict}
use Rattle.session.specs.Feeding.{Progress}
use Rattle.session.proofs.FeedLaws.{Room, Feeding}
use Rattle.session.proofs.Seated.{Seated, put_own, reseats, guest_sound, asked_told, asked_there}

module _ (start : Progress) (piece before memory₀ : List ℕ) where
  abbrev pub Serving : (memory out : List ℕ) (tables : Tables) (line : List ℕ) (held : ℕ) (door : Verdict) (g : ℕ) (guest : Guest) (count i : ℕ) → Type 0
  Serving memory out tables line held door g guest count i =
      Room piece before memory₀ memory out line held count i
      × Seated tables (length memory) door g guest.extents guest.plant
      × Feeding start piece before (with_plant tables g guest.plant) memory line held count i out

  -- the values that the ways of a turn come to, as each way has them
  pub as_told : (line : List ℕ) (held i : ℕ) (m m' o o' : List ℕ) (t t' : Tables) (v v' : Verdict) (g g' : ℕ) (u u' : Guest) (a a' : ℕ)
      → m ≡ m' → o ≡ o' → t ≡ t' → v ≡ v' → g ≡ g' → u ≡ u' → a ≡ a'
      → Serving m' o' t' line held v' g' u' a' i → Serving m o t line held v g u a i
  as_told line held i m m' o o' t t' v v' g g' u u' a a' em eo et ev eg eu ea s = rw (em, eo, et, ev, eg, eu, ea) s

-- a guest's own plant put back changes nothing
pub put_in : (start : Progress) (piece before : List ℕ) (tables : Tables) (memory line : List ℕ) (held count i : ℕ) (out : List ℕ) (g : ℕ)
    → Feeding start piece before tables memory line held count i out → Feeding start piece before (with_plant tables g (plant_at tables g)) memory line held count i out
put_in start piece before tables memory line held count i out g f = subst (λ (t : Tables). Feeding start piece before t memory line held count i out) (sym (put_own tables g)) f

-- the guest whom the line's event asks sits
pub record Sits (start : Progress) (piece before memory line : List ℕ) (held : ℕ) (door : Verdict) (count i : ℕ) (out : List ℕ) (e : Event)
    (tables : Tables) (g : ℕ) (guest : Guest) : Type 0 where
  pub seated : Seated tables (length memory) door g guest.extents guest.plant
  pub asks : Asked.Guest g e ≡ asked (with_plant tables g guest.plant) (door_of (with_plant tables g guest.plant) (length memory)) (parse (take held line))
  pub sound : Sound guest.extents guest.plant (length memory)
  pub feeding : Feeding start piece before (with_plant tables g guest.plant) memory line held count i out

-- guest h sat already, or sits down in guest g's place
module _ (start : Progress) (piece before memory line : List ℕ) (held : ℕ) (door : Verdict) (count i : ℕ) (out : List ℕ) (tables : Tables) (g : ℕ) (guest : Guest)
    (s : Seated tables (length memory) door g guest.extents guest.plant) (f : Feeding start piece before (with_plant tables g guest.plant) memory line held count i out)
    (h : ℕ) (e : Event) (x : Asked) (p : x ≡ asked tables door (parse (take held line))) (q : x ≡ Asked.Guest h e) (t : Tables) (k : ℕ) (u : Guest) where
  abbrev all : Tables
  all = with_plant tables g guest.plant

  told : Asked.Guest h e ≡ asked all (door_of all (length memory)) (parse (take held line))
  told = asked_told tables memory (take held line) door g guest.extents guest.plant s h e x p q

  pub sits_still : h ≡ g → t ≡ tables → k ≡ g → u ≡ guest → Sits start piece before memory line held door count i out e t k u
  sits_still w et ek eu =
      let a : Asked.Guest g e ≡ asked all (door_of all (length memory)) (parse (take held line)) = rw w at told in
      rw (et, ek, eu) (record { seated = s; asks = a; sound = guest_sound tables memory (take held line) door g guest.extents guest.plant s e a; feeding = f })

  pub sits_down : t ≡ all → k ≡ h → u ≡ guest_at all h → Sits start piece before memory line held door count i out e t k u
  sits_down et ek eu =
      let there : h < guest_limit = asked_there tables memory (take held line) door g guest.extents guest.plant s h e x p q in
      let sat : Seated all (length memory) door h (guest_at all h).extents (plant_at all h) = reseats tables (length memory) door g guest.extents guest.plant s h there in
      let a : Asked.Guest h e ≡ asked (with_plant all h (plant_at all h)) (door_of (with_plant all h (plant_at all h)) (length memory)) (parse (take held line)) = rw (put_own all h) told in
      rw (et, ek, eu) (record {
        seated = sat;
        asks = a;
        sound = guest_sound all memory (take held line) door h (guest_at all h).extents (plant_at all h) sat e a;
        feeding = put_in start piece before all memory line held count i out h f;
      })
