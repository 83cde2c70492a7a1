-- Promise: alone (demand 3). What a plant gets, from any host, over any events, is what it gets from the machine that has this plant
-- alone and is given only its own events; so two hosts agree on it, because both agree with that machine.
use mathlib.Core.Path.{◌≡◌, refl, sym, ap, ◌∙◌}
use mathlib.Core.Bool.{Bool, true, false}
use mathlib.Core.List.{List, [], ◌∷◌}
use Prim.Native.Nat.{ℕ, ◌<◌}
use Rattle.rules.specs.declared.Answer.{Answer}
use Rattle.rules.specs.declared.Event.{Event}
use Rattle.rules.specs.declared.Tables.{Tables}
use Rattle.rules.specs.Host.{host_event}
use Rattle.kept.proofs.Steady.{Steady, owner_same, event_steady}
use Rattle.promises.specs.Words.{Passes, is_owner, belongs, tables_after, memory_after, own_events, own_answers}
use Rattle.promises.specs.Machine.{Machine, did, machine_of, guest_after, answers_alone, machine_after}
use Rattle.promises.specs.Promises.{Alone, TwoHosts}
use Rattle.promises.proofs.Passing.{passes_next}
use Rattle.promises.proofs.AloneSteps.{own_step, other_step}

abbrev Agrees : (Event → Bool) → Tables → List ℕ → ℕ → Machine → List Event → Type 0
Agrees own tables memory g m es =
    (own_answers own tables memory es ≡ answers_alone m (own_events own es)) × (guest_after tables memory g es ≡ machine_after m (own_events own es))

-- the host after one event, and the machine that g is in it
abbrev next : Tables → List ℕ → Event → Tables
next tables memory e = (host_event tables memory e).tables

abbrev left : Tables → List ℕ → Event → List ℕ
left tables memory e = (host_event tables memory e).memory

-- one event in front of a list on which host and machine agree
module _ (own : Event → Bool) (g : ℕ) (e : Event) (es : List Event) (tables : Tables) (memory : List ℕ) (p : Passes tables memory) (h : g < tables.guests) (f : (e : Event) → own e ≡ belongs tables g e) where
  steady : Steady tables (next tables memory e)
  steady = (event_steady tables memory e p.keep p.long).0

  own_next : (x : Event) → own x ≡ belongs (next tables memory e) g x
  own_next x = f x ∙ ap (is_owner g) (sym (owner_same tables (next tables memory e) steady x))

  in_front : Agrees own (next tables memory e) (left tables memory e) g (machine_of (next tables memory e) (left tables memory e) g) es → Agrees own tables memory g (machine_of tables memory g) (e ∷ es)
  unfolding own_answers answers_alone tables_after memory_after machine_after own_events
  in_front rest = go (own e) refl
    where
      go : (t : Bool) → own e ≡ t → Agrees own tables memory g (machine_of tables memory g) (e ∷ es)
      go true q =
          let mine = own_step tables memory e p.keep p.long g h (sym (f e) ∙ q) in
          rw q (
            rw mine.0 (ap (λ (l : List Answer). (did (machine_of tables memory g) e).answer ∷ l) (rest.0 ∙ ap (λ (m : Machine). answers_alone m (own_events own es)) mine.1)),
            rest.1 ∙ ap (λ (m : Machine). machine_after m (own_events own es)) mine.1,
          )
      go false q =
          let same = other_step tables memory e p.keep p.long g h (sym (f e) ∙ q) in
          rw q (
            rest.0 ∙ ap (λ (m : Machine). answers_alone m (own_events own es)) same,
            rest.1 ∙ ap (λ (m : Machine). machine_after m (own_events own es)) same,
          )

along : (own : Event → Bool) (g : ℕ) (es : List Event) (tables : Tables) (memory : List ℕ) → Passes tables memory → g < tables.guests
    → ((e : Event) → own e ≡ belongs tables g e) → Agrees own tables memory g (machine_of tables memory g) es
unfolding own_answers answers_alone tables_after memory_after machine_after own_events
along own g [] tables memory p h f = (refl, refl)
along own g (e ∷ es) tables memory p h f =
    in_front own g e es tables memory p h f
    (along own g es (next tables memory e) (left tables memory e) (passes_next tables memory p e) (rw (steady own g e es tables memory p h f).guests h) (own_next own g e es tables memory p h f))

-- For every host whose tables keep the rules and whose memory is long enough, every guest, and every list of events: the answers
-- to the guest's own events, its record after and every byte that it sees after are those of the machine that has it alone.
pub alone : Alone
alone tables memory g events p h = along (belongs tables g) g events tables memory p h (λ e. refl)

-- Two hosts. The plant has the same record in both, and sees the same real memory; all else may differ. If its own events are the
-- same in the same order, with any others between them, it gets the same answers and ends with the same record and memory, and
-- both are those of the machine above.
pub two_hosts : TwoHosts
two_hosts tables tables' memory memory' g events events' p h p' h' plant valid byte same =
    let first = alone tables memory g events p h in
    let second = alone tables' memory' g events' p' h' in (
      first.0 ∙ (λ i. answers_alone (one i) (same i)) ∙ sym second.0,
      first.1 ∙ (λ i. machine_after (one i) (same i)) ∙ sym second.1,
    )
  where
    one : machine_of tables memory g ≡ machine_of tables' memory' g
    one = λ i. record { plant = plant i; sight = record { valid = λ a n. valid a n i; byte = λ a. byte a i } }
