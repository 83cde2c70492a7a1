-- Not vacuous: the worked session's host, at its start and after any events, meets what the promises ask for.
use mathlib.Core.Path.{◌≡◌, refl, ap, ◌∙◌}
use mathlib.Core.Bool.{true, false, and-false}
use mathlib.Core.List.{List, [], ◌∷◌}
use Prim.Native.Nat.{ℕ, zero, suc, ◌+◌, ◌≤◌, ◌<◌}
use native.Mathlib.Omega.{arith}
use borrow.Author.Tests.{le-leb, lt-leb}
use Rattle.rules.specs.declared.Event.{Event}
use Rattle.rules.specs.declared.Extents.{Extents}
use Rattle.rules.specs.declared.Tables.{Tables}
use Rattle.rules.specs.Kept.{guest_at, extents_of}
use Rattle.rules.specs.Rulings.{granted}
use Rattle.rules.specs.Image.{read_image}
use Rattle.rules.specs.Host.{HostOutcome, owner_of}
use Rattle.rules.proofs.Computing.{computing}
use Rattle.rules.proofs.Examples.{worked_image, worked_tables, start, next, after}
use Rattle.rules.proofs.AcceptedCalls.{storing}
use Rattle.memory.specs.Cells.{cell, owns}
use Rattle.memory.specs.Ready.{present}
use Rattle.kept.proofs.Accepted.{load_keeps}
use Rattle.kept.proofs.Steady.{event_steady}
use Rattle.promises.specs.Words.{Passes, belongs, own_events, own_answers}
use Rattle.promises.specs.Machine.{machine_of, guest_after, answers_alone, machine_after}
use Rattle.promises.proofs.Passing.{passes_next}
use Rattle.promises.proofs.Isolation.{isolation, nobodys_bytes}
use Rattle.promises.proofs.Alone.{alone}

-- what the promises ask of a host, of one that an event left
abbrev pub Passing : HostOutcome → Type 0
Passing o = Passes o.tables o.memory

-- The worked image is accepted.
pub worked_accepted : read_image worked_image ≡ granted worked_tables
unfolding computing
worked_accepted = refl

-- The worked session's host passes.
pub worked_passes : Passing start
unfolding computing
worked_passes = record { keep = load_keeps worked_image; long = refl }

module _ (o : HostOutcome) (p : Passing o) where
  -- A host that passes does so after every event,
  pub event_passes : (event : Event) → Passing (next o event)
  unfolding next
  event_passes event = passes_next o.tables o.memory p event

  -- which leaves the number of its guests and their extents.
  pub guests_stay : (event : Event) → (next o event).tables.guests ≡ o.tables.guests
  unfolding next
  guests_stay event = (event_steady o.tables o.memory event p.keep p.long).0.guests

  pub extents_stay : (event : Event) (g : ℕ) → (guest_at (next o event).tables g).extents ≡ (guest_at o.tables g).extents
  unfolding next
  extents_stay event g = (event_steady o.tables o.memory event p.keep p.long).0.extents g

-- So it does after any events, among them the calls that negotiate the groups.
pub passes_after : (events : List Event) (o : HostOutcome) → Passing o → Passing (after o events)
unfolding after
passes_after [] o p = p
passes_after (e ∷ es) o p = passes_after es (next o e) (event_passes o p e)

pub guests_after : (events : List Event) (o : HostOutcome) → Passing o → (after o events).tables.guests ≡ o.tables.guests
unfolding after
guests_after [] o p = refl
guests_after (e ∷ es) o p = guests_after es (next o e) (event_passes o p e) ∙ guests_stay o p e

pub extents_after : (events : List Event) (o : HostOutcome) → Passing o → (g : ℕ) → (guest_at (after o events).tables g).extents ≡ (guest_at o.tables g).extents
unfolding after
extents_after [] o p g = refl
extents_after (e ∷ es) o p g = extents_after es (next o e) (event_passes o p e) g ∙ extents_stay o p e g

-- the worked session's host after some events
abbrev pub reached : List Event → HostOutcome
reached events = after start events

pub worked_passes_after : (events : List Event) → Passing (reached events)
worked_passes_after events = passes_after events start worked_passes

-- guests 0 and 1 are there, and guest 1's page is host offsets 8,192 to 16,383
guests_there : (events : List Event) (g : ℕ) → g < 2 → g < (reached events).tables.guests
unfolding computing
guests_there events g h = rw (guests_after events start worked_passes) h

guest_1_first : (k : ℕ) → 8192 ≤ k → k < 16384 → owns (extents_of start.tables 1) k ≡ true
unfolding computing owns
guest_1_first k l h = rw (le-leb 8192 k l, le-leb (k + 1) 16384 (omega arith))

guest_1_page : (events : List Event) (k : ℕ) → 8192 ≤ k → k < 16384 → owns (extents_of (reached events).tables 1) k ≡ true
guest_1_page events k l h = ap (λ (e : Extents). owns (present e) k) (extents_after events start worked_passes 1) ∙ guest_1_first k l h

-- nobody has a page from host offset 16,384 on
nobodys_first : (k : ℕ) → 16384 ≤ k → (g : ℕ) → g < start.tables.guests → owns (extents_of start.tables g) k ≡ false
unfolding computing owns
nobodys_first k l zero h = rw (lt-leb (k + 1) 8192 (omega arith), and-false)
nobodys_first k l (suc zero) h = rw (lt-leb (k + 1) 16384 (omega arith), and-false)
nobodys_first k l (suc (suc g)) h = absurd (omega arith)

nobodys_page : (events : List Event) (k : ℕ) → 16384 ≤ k → (g : ℕ) → g < (reached events).tables.guests → owns (extents_of (reached events).tables g) k ≡ false
nobodys_page events k l g h =
    ap (λ (e : Extents). owns (present e) k) (extents_after events start worked_passes g)
    ∙ nobodys_first k l g (rw (guests_after events start worked_passes) at h)

module _ (events : List Event) (event : Event) where
  -- Isolation, there: after any events, one that is not guest 1's leaves guest 1's record and the bytes of its page.
  pub neighbour_unchanged : belongs (reached events).tables 1 event ≡ false
      → (guest_at (next (reached events) event).tables 1 ≡ guest_at (reached events).tables 1)
      × ((k : ℕ) → 8192 ≤ k → k < 16384 → cell (next (reached events) event).memory k ≡ cell (reached events).memory k)
  unfolding next
  neighbour_unchanged foreign =
      let i = isolation (reached events).tables (reached events).memory event 1 (omega arith) foreign in
      (i.kept, λ k l h. i.bytes k (guest_1_page events k l h))

  -- and every event leaves the bytes from host offset 16,384 on.
  pub nobodys_unchanged : (k : ℕ) → 16384 ≤ k → cell (next (reached events) event).memory k ≡ cell (reached events).memory k
  unfolding next
  nobodys_unchanged k l = nobodys_bytes (reached events).tables (reached events).memory event k (nobodys_page events k l)

-- So a store of guest 0, whatever its address and value, is nothing to guest 1.
pub store_unseen : (address value : ℕ)
    → (guest_at (next start (storing 0 address value)).tables 1 ≡ guest_at start.tables 1)
    × ((k : ℕ) → 8192 ≤ k → k < 16384 → cell (next start (storing 0 address value)).memory k ≡ cell start.memory k)
unfolding after owner_of
store_unseen address value = neighbour_unchanged [] (storing 0 address value) refl

-- Alone, there: after any events, and for any later ones, guest 0 and guest 1 each get what its machine alone gives.
module _ (events later : List Event) (g : ℕ) (there : g < 2) where
  abbrev tables : Tables
  tables = (reached events).tables

  abbrev memory : List ℕ
  memory = (reached events).memory

  pub worked_alone : (own_answers (belongs tables g) tables memory later ≡ answers_alone (machine_of tables memory g) (own_events (belongs tables g) later))
      × (guest_after tables memory g later ≡ machine_after (machine_of tables memory g) (own_events (belongs tables g) later))
  worked_alone = alone tables memory g later (worked_passes_after events) (guests_there events g there)
