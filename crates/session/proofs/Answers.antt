-- What each thing that a line can ask for comes to.
use Rattle.std.proofs.Common.{Ok, Err}
use mathlib.Core.Path.{◌≡◌, refl, sym, ap, ◌∙◌}
use mathlib.Core.Bool.{true}
use mathlib.Core.List.{List}
use Prim.Native.Nat.{ℕ, ◌<◌}
use lib.ListN.{length}
use Rattle.rules.specs.declared.Answer.{Answer}
use Rattle.rules.specs.declared.Event.{Event}
use Rattle.rules.specs.declared.Loaded.{Loaded}
use Rattle.rules.specs.declared.Tables.{Tables}
use Rattle.rules.specs.declared.Reply.{Reply}
use Rattle.rules.specs.Limits.{guest_limit}
use Rattle.rules.specs.Kept.{guest_at, plant_at, extents_of, with_plant}
use Rattle.rules.specs.Real.{sight_of}
use Rattle.rules.specs.Image.{load}
use Rattle.rules.specs.Host.{HostOutcome, plant_rule, long_enough, host_event}
use Rattle.rules.specs.Tables.{keep_rules}
use Rattle.rules.specs.Text.{Line, bad, image, event, parse}
use Rattle.rules.specs.Session.{Session, after_event, replied, text_of, printed_as, answered}
use Rattle.records.specs.Verdict.{Verdict}
use Rattle.records.specs.Sound.{Sound}
use Rattle.plants.specs.declared.change.Done.{Done}
use Rattle.plants.specs.Changes.{plant_after}
use Rattle.plants.specs.Follows.{Follows}
use Rattle.host.specs.Seats.{Seat}
use Rattle.host.specs.Seats.{door_of, seat_of}
use Rattle.host.proofs.DoorLaws.{door_tells, seat_told, seat_sound, seat_refuses, seat_follows}
use Rattle.kept.proofs.Tables.{event_keeps}
use Rattle.kept.proofs.Steady.{Steady, long_same, event_steady}
use Rattle.text.specs.Lines.{image_of}
use Rattle.session.specs.declared.ask.Asked.{Asked}
use Rattle.session.specs.Asking.{asked, asked_of}

module _ (tables : Tables) (memory line : List ℕ) where
  abbrev session : Session
  session = record { tables = tables; memory = memory }

  abbrev door : Verdict
  door = door_of tables (length memory)

  -- an image
  answers_image : Asked.Image ≡ asked tables door (parse line)
      → answered session (parse line) ≡ record { session = record { tables = (load (image_of (parse line))).tables; memory = memory }; text = text_of (Reply.Image (load (image_of (parse line))).answer) }
  unfolding asked asked_of answered replied text_of image_of
  answers_image = go (parse line)
    where
      none : (e : Event) (s : Seat) → seat_of tables door e ≡ s → Asked.Image ≡ asked_of tables door e → ⊥
      none e (Err r) q p = cc (p, q)
      none e (Ok g) q p = cc (p, q)

      go : (l : Line) → Asked.Image ≡ asked tables door l
          → answered session l ≡ record { session = record { tables = (load (image_of l)).tables; memory = memory }; text = text_of (Reply.Image (load (image_of l)).answer) }
      go bad p = cc
      go (image bytes) p = refl
      go (event e) p = absurd (none e (seat_of tables door e) refl p)

  pub answers_loaded : (r : Loaded) → Asked.Image ≡ asked tables door (parse line) → r ≡ load (image_of (parse line))
      → answered session (parse line) ≡ record { session = record { tables = r.tables; memory = memory }; text = text_of (Reply.Image r.answer) }
  answers_loaded r p e = rw e (answers_image p)

  -- no line, or an event that no guest answers
  pub answers_said : (reply : Reply) → Asked.Said reply ≡ asked tables door (parse line) → answered session (parse line) ≡ record { session = session; text = text_of reply }
  unfolding asked asked_of answered replied text_of
  answers_said reply = go (parse line)
    where
      of : (e : Event) (s : Seat) → seat_of tables door e ≡ s → Asked.Said reply ≡ asked_of tables door e
          → printed_as (after_event (host_event tables memory e)) ≡ record { session = session; text = text_of reply }
      of e (Err r) q p =
          let w : Reply.Event (Answer.Refused r) ≡ reply = cc (p, q) in
          ap (λ (o : HostOutcome). printed_as (after_event o)) (seat_refuses tables memory e r q) ∙ ap (λ (y : Reply). record { session = session; text = text_of y }) w
      of e (Ok g) q p = cc (p, q)

      go : (l : Line) → Asked.Said reply ≡ asked tables door l → answered session l ≡ record { session = session; text = text_of reply }
      go bad p = let w : Reply.Bad ≡ reply = cc in ap (λ (y : Reply). record { session = session; text = text_of y }) w
      go (image bytes) p = cc
      go (event e) p = of e (seat_of tables door e) refl p

  -- an event of a guest that is there
  pub guest_seated : (g : ℕ) (e : Event) → Asked.Guest g e ≡ asked tables door (parse line) → (parse line ≡ event e) × (seat_of tables door e ≡ Ok g)
  unfolding asked asked_of
  guest_seated g e = go (parse line)
    where
      of : (x : Event) (s : Seat) → seat_of tables door x ≡ s → Asked.Guest g e ≡ asked_of tables door x → (x ≡ e) × (seat_of tables door x ≡ Ok g)
      of x (Err r) q p = cc (p, q)
      of x (Ok h) q p = let w : h ≡ g = cc (p, q) in (cc (p, q), q ∙ ap Ok w)

      go : (l : Line) → Asked.Guest g e ≡ asked tables door l → (l ≡ event e) × (seat_of tables door e ≡ Ok g)
      go bad p = cc
      go (image bytes) p = cc
      go (event x) p =
          let w = of x (seat_of tables door x) refl p in
          (ap event w.0, ap (λ (y : Event). seat_of tables door y) (sym w.0) ∙ w.1)

  module _ (g : ℕ) (e : Event) (p : Asked.Guest g e ≡ asked tables door (parse line)) where
    pub guest_fine : (g < guest_limit) × Sound (guest_at tables g).extents (plant_at tables g) (length memory)
    guest_fine = seat_sound tables (length memory) e g (guest_seated g e p).1

    module _ (d : Done) (after : List ℕ)
        (f : Follows (guest_at tables g).extents (plant_at tables g) (plant_rule (sight_of (extents_of tables g) memory) (plant_at tables g) e) memory d after) where
      abbrev put : Tables
      put = with_plant tables g (plant_after (plant_at tables g) d)

      module _ (next : Tables) (n : next ≡ put) where
        outcome : host_event tables memory e ≡ record { answer = d.answer; tables = next; memory = after }
        outcome = seat_follows tables memory e g d after (guest_seated g e p).1 f ∙ (λ i. record { answer = d.answer; tables = sym n i; memory = after })

        pub answers_guest : answered session (parse line) ≡ record { session = record { tables = next; memory = after }; text = text_of (Reply.Event d.answer) }
        unfolding answered replied text_of
        answers_guest = rw (guest_seated g e p).0 (ap (λ (o : HostOutcome). printed_as (after_event o)) outcome)

        right : (keep_rules tables ≡ true) × (long_enough tables (length memory) ≡ true)
        right = door_tells tables (length memory) (seat_told tables (length memory) e door g (guest_seated g e p).1).0

        pub memory_same : length after ≡ length memory
        memory_same = ap (λ (o : HostOutcome). length o.memory) (sym outcome) ∙ (event_steady tables memory e right.0 right.1).1

        pub event_stays : Steady tables next
        event_stays = rw outcome at (event_steady tables memory e right.0 right.1).0

        -- it leaves the door as it was
        pub door_same : door_of next (length after) ≡ door
        unfolding door_of
        door_same =
            let kept : keep_rules next ≡ true = ap (λ (o : HostOutcome). keep_rules o.tables) (sym outcome) ∙ event_keeps tables memory e right.0 in
            let same = ap (λ (o : HostOutcome). long_enough o.tables (length memory)) (sym outcome) ∙ long_same _ _ (event_steady tables memory e right.0 right.1).0 (length memory) in
            rw (kept, memory_same, same, right.0, right.1)
