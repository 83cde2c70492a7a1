-- The guest whose plant `feed` holds apart from its tables. What counts are the tables with that plant put back.
use Rattle.std.specs.Prelude.{Ok, Err}
use mathlib.Core.Path.{◌≡◌, refl, sym, ap, ◌∙◌, subst}
use mathlib.Core.List.{List}
use Prim.Native.Nat.{ℕ, ◌<◌}
use lib.ListN.{length, set, length-set}
use lib.Seq.{get_or-set_same, set-get_or, set-set}
use Rattle.rules.specs.declared.Event.{Event}
use Rattle.rules.specs.declared.Extents.{Extents}
use Rattle.rules.specs.declared.Guest.{Guest}
use Rattle.rules.specs.declared.Plant.{Plant}
use Rattle.rules.specs.declared.Reply.{Reply}
use Rattle.rules.specs.declared.Tables.{Tables}
use Rattle.rules.specs.Limits.{guest_limit}
use Rattle.rules.specs.Kept.{hollow_guest, guest_at, plant_at, extents_of, with_plant}
use Rattle.memory.specs.Ready.{present}
use Rattle.rules.specs.Real.{sight_of}
use Rattle.rules.specs.Host.{owner_of, plant_rule}
use Rattle.rules.specs.Text.{Line, bad, image, event, parse}
use Rattle.rules.specs.Session.{text_of, answered}
use Rattle.records.specs.Verdict.{Verdict}
use Rattle.records.specs.Sound.{Sound}
use Rattle.plants.specs.declared.change.Done.{Done}
use Rattle.plants.specs.Changes.{plant_after}
use Rattle.plants.specs.Follows.{Follows}
use Rattle.host.specs.Seats.{door_of, seat_for, seat_of}
use Rattle.kept.proofs.Steady.{Steady, steady_same, steady_further, owner_same}
use Rattle.session.specs.declared.ask.Asked.{Asked}
use Rattle.session.specs.Asking.{seated, asked, asked_of}
use Rattle.session.proofs.Answers.{guest_fine, answers_guest, memory_same, event_stays, door_same}

-- putting a plant back
pub put_own : (tables : Tables) (g : ℕ) → with_plant tables g (plant_at tables g) ≡ tables
put_own tables g = λ i. record { guests = tables.guests; guest = set-get_or tables.guest g hollow_guest i }

module _ (tables : Tables) (g : ℕ) (plant : Plant) (h : g < length tables.guest) where
  pub put_there_lem : guest_at (with_plant tables g plant) g ≡ record { extents = (guest_at tables g).extents; plant = plant }
  put_there_lem = get_or-set_same tables.guest g _ hollow_guest h

  pub put_again : (after : Plant) → with_plant (with_plant tables g plant) g after ≡ with_plant tables g after
  put_again after = λ i. record {
    guests = tables.guests;
    guest = (ap (λ (x : Guest). set (set tables.guest g (record { extents = (guest_at tables g).extents; plant = plant })) g (record { extents = x.extents; plant = after })) put_there_lem ∙ set-set tables.guest g _ _) i;
  }

-- An event's seat is the same before and after events, and so is what a line asks for.
module _ (a b : Tables) (s : Steady a b) (door : Verdict) where
  seat_same : (e : Event) → seat_of b door e ≡ seat_of a door e
  unfolding seat_of
  seat_same e = go door
    where
      go : (v : Verdict) → seat_of b v e ≡ seat_of a v e
      go (Ok u) = ap (seat_for b.guests) (owner_same a b s e) ∙ ap (λ (n : ℕ). seat_for n (owner_of a e)) s.guests
      go (Err r) = refl

  pub asked_same : (l : Line) → asked b door l ≡ asked a door l
  unfolding asked asked_of
  asked_same bad = refl
  asked_same (image bytes) = refl
  asked_same (event e) = ap (seated e) (seat_same e)

-- `plant` is guest g's, and the door is the same with and without it. The tables as they are keep what no event changes.
pub record Seated (tables : Tables) (n : ℕ) (door : Verdict) (g : ℕ) (extents : Extents) (plant : Plant) : Type 0 where
  pub there : g < guest_limit
  pub long : length tables.guest ≡ guest_limit
  pub own : extents ≡ (guest_at tables g).extents
  pub steady : Steady tables (with_plant tables g plant)
  pub as_is : door ≡ door_of tables n
  pub whole : door ≡ door_of (with_plant tables g plant) n

-- a guest's plant taken out
pub seats : (tables : Tables) (n : ℕ) (door : Verdict) (g : ℕ) → g < guest_limit → length tables.guest ≡ guest_limit → door ≡ door_of tables n
    → Seated tables n door g (guest_at tables g).extents (plant_at tables g)
seats tables n door g h l d = record {
  there = h;
  long = l;
  own = refl;
  steady = rw (put_own tables g) (steady_same tables);
  as_is = d;
  whole = rw (put_own tables g) d;
}

-- what is put back, and what a line asks of it
module _ (tables : Tables) (n : ℕ) (door : Verdict) (g : ℕ) (extents : Extents) (plant : Plant) (s : Seated tables n door g extents plant) where
  abbrev pub all : Tables
  all = with_plant tables g plant

  g_there : g < length tables.guest
  g_there = rw s.long s.there

  pub sits : guest_at all g ≡ record { extents = extents; plant = plant }
  sits = put_there_lem tables g plant g_there ∙ (λ i. record { extents = sym s.own i; plant = plant })

  -- another guest takes the place
  pub reseats : (h : ℕ) → h < guest_limit → Seated all n door h (guest_at all h).extents (plant_at all h)
  reseats h k = seats all n door h k (length-set tables.guest g _ ∙ s.long) s.whole

  -- x is what the code was told, and y what its match told of x
  pub asked_all : (l : Line) (x y : Asked) → x ≡ asked tables door l → x ≡ y → y ≡ asked all (door_of all n) l
  asked_all l x y p q = sym q ∙ p ∙ sym (asked_same tables all s.steady door l) ∙ ap (λ (v : Verdict). asked all v l) s.whole

-- An event of the guest that sits: p is what its line asks for.
module _ (tables : Tables) (memory line : List ℕ) (door : Verdict) (g : ℕ) (extents : Extents) (plant : Plant) (s : Seated tables (length memory) door g extents plant)
    (e : Event) (p : Asked.Guest g e ≡ asked (with_plant tables g plant) (door_of (with_plant tables g plant) (length memory)) (parse line)) where
  abbrev T : Tables
  T = with_plant tables g plant

  pub guest_sound : Sound extents plant (length memory)
  guest_sound = subst (λ (x : Guest). Sound x.extents x.plant (length memory)) (sits tables (length memory) door g extents plant s) (guest_fine T memory line g e p).1

  module _ (d : Done) (after : List ℕ) (f : Follows extents plant (plant_rule (sight_of (present extents) memory) plant e) memory d after)
      (next : Plant) (q : next ≡ plant_after plant d) where
    follows : Follows (guest_at T g).extents (plant_at T g) (plant_rule (sight_of (extents_of T g) memory) (plant_at T g) e) memory d after
    follows =
        subst (λ (x : Guest). Follows x.extents x.plant (plant_rule (sight_of (present x.extents) memory) x.plant e) memory d after)
        (sym (sits tables (length memory) door g extents plant s)) f

    put_back : with_plant tables g next ≡ with_plant T g (plant_after (plant_at T g) d)
    put_back =
        ap (with_plant tables g) (q ∙ ap (λ (x : Guest). plant_after x.plant d) (sym (sits tables (length memory) door g extents plant s)))
        ∙ sym (put_again tables g plant (rw s.long s.there) (plant_after (plant_at T g) d))

    pub event_answered : answered (record { tables = T; memory = memory }) (parse line) ≡ record { session = record { tables = with_plant tables g next; memory = after }; text = text_of (Reply.Event d.answer) }
    event_answered = answers_guest T memory line g e p d after follows (with_plant tables g next) put_back

    pub event_memory : length after ≡ length memory
    event_memory = memory_same T memory line g e p d after follows (with_plant tables g next) put_back

    pub event_seated : Seated tables (length after) door g extents next
    event_seated = record {
      there = s.there;
      long = s.long;
      own = s.own;
      steady = steady_further tables T (with_plant tables g next) s.steady (event_stays T memory line g e p d after follows (with_plant tables g next) put_back);
      as_is = s.as_is ∙ ap (door_of tables) (sym event_memory);
      whole = s.whole ∙ sym (door_same T memory line g e p d after follows (with_plant tables g next) put_back);
    }

-- What the code was told, x, and what its match told of it: an event of guest h, who is there, and who may sit already.
module _ (tables : Tables) (memory line : List ℕ) (door : Verdict) (g : ℕ) (extents : Extents) (plant : Plant) (s : Seated tables (length memory) door g extents plant)
    (h : ℕ) (e : Event) (x : Asked) (p : x ≡ asked tables door (parse line)) (q : x ≡ Asked.Guest h e) where
  pub asked_told : Asked.Guest h e ≡ asked (with_plant tables g plant) (door_of (with_plant tables g plant) (length memory)) (parse line)
  asked_told = asked_all tables (length memory) door g extents plant s (parse line) x (Asked.Guest h e) p q

  pub asked_there : h < guest_limit
  asked_there = (guest_fine (with_plant tables g plant) memory line h e asked_told).0
