-- What is promised, as propositions: read this file first. The theorem that proves each is named in front of it, and stands in
-- proofs/. The words are those of Words.antt, Machine.antt, Resent.antt, Places.antt and Hits.antt beside this file, of Again.antt in
-- crate roundtrip, and of the rules; docs/PROMISES.md lists them all.
use Rattle.std.specs.Prelude.{◌≡◌, true, false, ◌&&◌, List, ◌++◌, ℕ, ◌+◌, ◌*◌, ◌%◌, ◌<◌, ◌≤◌, eqb, length, replicate, take, drop, Ok, Err}
use Rattle.rules.specs.declared.Answer.TheVariants.{Done, One, Refused}
use Rattle.rules.specs.declared.Call.{Call}
use Rattle.rules.specs.declared.Device.{Device}
use Rattle.rules.specs.declared.Event.{Event}
use Rattle.rules.specs.declared.ImageRefusal.{ImageRefusal}
use Rattle.rules.specs.Types.{Loading}
use Rattle.rules.specs.declared.Plant.{Plant}
use Rattle.rules.specs.declared.QueueRecord.{QueueRecord}
use Rattle.rules.specs.declared.Refusal.{Refusal}
use Rattle.rules.specs.declared.Refusal.TheVariants.{EINVAL, EBADALIGN, ENORADDR, EWOULDBLOCK}
use Rattle.rules.specs.declared.Ring.{Ring}
use Rattle.rules.specs.declared.Tables.{Tables}
use Rattle.rules.specs.declared.TsbHit.{TsbHit}
use Rattle.rules.specs.declared.WriteRefusal.{WriteRefusal}
use Rattle.rules.specs.Types.{Writing}
use Rattle.rules.specs.Limits.{guest_limit, queue_limit}
use Rattle.rules.specs.Kept.{guest_at, plant_at, cpu_at, queue_at, extents_of}
use Rattle.rules.specs.Scan.{◌is_from◌to◌}
use Rattle.rules.specs.Real.{Sight, valid, byte_at}
use Rattle.rules.specs.Rulings.{refused, granted, ◌or_refuse◌then◌, done}
use Rattle.rules.specs.Mondo.{cpu_mondo_send}
use Rattle.rules.specs.Hits.{hits_offset}
use Rattle.rules.specs.Image.{read_image, load}
use Rattle.rules.specs.Tables.{keep_rules}
use Rattle.rules.specs.Host.{HostOutcome, long_enough, host_rule, host_event}
use Rattle.rules.specs.Session.{output}
use Rattle.rules.specs.Writing.{image_of, write_image}
use Rattle.rules.specs.Plan.{planned}
use Rattle.memory.specs.Cells.{cell, owns}
use Rattle.roundtrip.specs.Again.{Bytes, Whole, as_loaded, SamePartition}
use Rattle.session.specs.Feeding.{at_first}
use Rattle.session.specs.Pieces.{in_pieces, joined_up, Roomy}
use Rattle.promises.specs.Words.{Passes, belongs, tables_after, memory_after, own_events, own_answers, Unchanged, Untouched, InSome, OneRun, SameReal, StatisticsCall, Clears, cleared, Excepted, target_at, SetsTarget, Received}
use Rattle.promises.specs.Machine.{Machine, machine_of, guest_after, answers_alone, machine_after}
use Rattle.promises.specs.Hits.{HitThere, hit_named, buffer_of, Counted}
use Rattle.promises.specs.Resent.{MondoCall, AllMarked, ReadyAgain, GotInAll}
use Rattle.promises.specs.Places.{Tells, Right}

-- The tables keep the rules.

-- `kept`: from loading on, whatever the events. So a host that has loaded an image answers no event with 101.
pub record Kept : Type 0 where
  -- an accepted image gives tables that keep the rules
  pub accepted_keeps : (bytes : List ℕ) (tables : Tables) → read_image bytes ≡ granted tables → keep_rules tables ≡ true
  -- so does every image: one that is refused gives the tables with no guest
  pub load_keeps : (bytes : List ℕ) → keep_rules (load bytes).tables ≡ true
  -- every event, refused or not, leaves tables that keep the rules
  pub event_keeps : (tables : Tables) (memory : List ℕ) (event : Event) → keep_rules tables ≡ true
      → keep_rules (host_event tables memory event).tables ≡ true

-- Where an image is bad (request No. 4).

-- `places`: "Value 1 is the guest number of the first fault .., value 2 the position of the extent or source in that guest".
pub record Places : Type 0 where
  -- of every image that is refused, what the refusal tells is so
  pub refused_tells : (bytes : List ℕ) (r : ImageRefusal) → (load bytes).answer ≡ Err r → Tells bytes r
  -- an image that is accepted is right, and its tables are those that are loaded
  pub accepted_right : (bytes : List ℕ) → (load bytes).answer ≡ (Ok tt) → Right bytes (load bytes).tables
  -- and one that is right is accepted: nothing but a fault refuses an image
  pub right_accepted : (bytes : List ℕ) (tables : Tables) → Right bytes tables → load bytes ≡ record { answer = (Ok tt); tables = tables }

-- Writing partition images (request No. 2).

-- `images`: what is loaded and written, written and loaded.
pub record Images : Type 0 where
  -- "Every accepted image, loaded and written, gives back the same bytes": into every buffer that has room for them
  pub written_again : (bytes buffer : List ℕ) → Bytes bytes → (load bytes).answer ≡ (Ok tt) → length bytes ≤ length buffer
      → write_image (load bytes).tables buffer ≡ record { answer = Ok (length bytes); buffer = bytes ++ drop (length bytes) buffer }
  -- "whatever is written loads to the same partition": these tables with every setting as after loading
  pub loaded_again_lem : (tables : Tables) (buffer : List ℕ) (n : ℕ) → Whole tables
      → (write_image tables buffer).answer ≡ Ok n
      → load (take n (write_image tables buffer).buffer) ≡ record { answer = (Ok tt); tables = as_loaded tables }
  -- and all tables that keep the rules and have a guest are written, where there is room
  pub is_written : (tables : Tables) (buffer : List ℕ) → keep_rules tables ≡ true → 1 ≤ tables.guests
      → length (image_of tables) ≤ length buffer → (write_image tables buffer).answer ≡ Ok (length (image_of tables))
  -- "Only the partition is written": one partition has one image, whatever its guests configured
  pub same_image : (t u : Tables) → SamePartition t u → image_of t ≡ image_of u
  -- and one image is one partition
  pub same_partition : (t u : Tables) → Whole t → Whole u → keep_rules t ≡ true → keep_rules u ≡ true → 1 ≤ t.guests → 1 ≤ u.guests
      → image_of t ≡ image_of u → as_loaded t ≡ as_loaded u
  -- each refusal "leaves the buffer unchanged"
  pub refused_leaves : (tables : Tables) (buffer : List ℕ) (r : WriteRefusal) → (write_image tables buffer).answer ≡ Err r
      → (write_image tables buffer).buffer ≡ buffer

-- `plan_enough`: no input of the program `plan` needs more than its first 97 lines of 2,049 bytes to be answered.
abbrev pub PlanEnough : Type 0
PlanEnough = (input : List ℕ) → planned (take (97 * 2049) input) ≡ planned input

-- Demand 2: no event changes a record or a byte of a guest other than its own. Nothing is asked of the tables and the memory.

-- `isolation`: for every place of the tables, whether a guest is there or not.
abbrev pub Isolation : Type 0
Isolation =
    (tables : Tables) (memory : List ℕ) (event : Event) (g : ℕ) → g < guest_limit
    → belongs tables g event ≡ false
    → Untouched tables memory g (host_event tables memory event)

-- `nobodys_bytes`: no event changes a byte in nobody's host pages.
abbrev pub NobodysBytes : Type 0
NobodysBytes =
    (tables : Tables) (memory : List ℕ) (event : Event) (k : ℕ)
    → ((g : ℕ) → g < tables.guests → owns (extents_of tables g) k ≡ false)
    → cell (host_event tables memory event).memory k ≡ cell memory k

-- What a refusal leaves behind.

-- `refused_at_the_door`: 101, 102, 103 of a guest that is not there, and 104 change nothing.
abbrev pub RefusedAtTheDoor : Type 0
RefusedAtTheDoor =
    (tables : Tables) (memory : List ℕ) (event : Event) (r : Refusal)
    → host_rule tables memory event ≡ refused r
    → Unchanged tables memory (host_event tables memory event)

-- `refusal_changes_nothing`: no refusal changes anything, but for those that are excepted.
abbrev pub RefusalChangesNothing : Type 0
RefusalChangesNothing =
    (tables : Tables) (memory : List ℕ) (event : Event) (r : Refusal) → (Excepted event r → ⊥)
    → (host_event tables memory event).answer ≡ Refused r
    → Unchanged tables memory (host_event tables memory event)

-- `refused_statistics`: those of 0x102 that are excepted set the statistics address to 0, and change nothing else.
abbrev pub RefusedStatistics : Type 0
RefusedStatistics =
    (tables : Tables) (memory : List ℕ) (c : Call) (r : Refusal) → StatisticsCall (Event.Call c) → Clears r
    → (host_event tables memory (Event.Call c)).answer ≡ Refused r
    → ((host_event tables memory (Event.Call c)).tables ≡ cleared tables c) × ((host_event tables memory (Event.Call c)).memory ≡ memory)

-- Demand 3: what a plant gets does not depend on its neighbours.

-- `alone`: over any events of a host that passes 101 and 102, a guest gets what the machine that has it alone gives, which is
-- given the guest's own events only: the answers, and at the end its record and the byte at each real address.
abbrev pub Alone : Type 0
Alone =
    (tables : Tables) (memory : List ℕ) (g : ℕ) (events : List Event) → Passes tables memory → g < tables.guests
    → (own_answers (belongs tables g) tables memory events
    ≡ answers_alone (machine_of tables memory g) (own_events (belongs tables g) events))
    × (guest_after tables memory g events ≡ machine_after (machine_of tables memory g) (own_events (belongs tables g) events))

-- `two_hosts`: two hosts that pass, in which the guest has the same record, the same valid ranges and the same byte at each real
-- address. If its own events are the same in the same order, with any others between, its answers and all of that are the same.
abbrev pub TwoHosts : Type 0
TwoHosts =
    (tables tables' : Tables) (memory memory' : List ℕ) (g : ℕ) (events events' : List Event)
    → Passes tables memory → g < tables.guests
    → Passes tables' memory' → g < tables'.guests
    → plant_at tables g ≡ plant_at tables' g
    → ((a n : ℕ) → valid (extents_of tables g) a n ≡ valid (extents_of tables' g) a n)
    → ((a : ℕ) → byte_at (extents_of tables g) memory a ≡ byte_at (extents_of tables' g) memory' a)
    → own_events (belongs tables g) events ≡ own_events (belongs tables' g) events'
    → (own_answers (belongs tables g) tables memory events ≡ own_answers (belongs tables' g) tables' memory' events')
    × (guest_after tables memory g events ≡ guest_after tables' memory' g events')

-- Demand 3 in its own words: "Two hosts, each with an accepted image and enough memory; one plant has the same guest number, cpus,
-- real extents, device list and first memory in both, all else may differ. If its own events are the same in the same order, with
-- neighbours' events anywhere between, it gets the same answers (those of demand 2) and ends with the same records, host pages
-- aside, and memory."

-- "one plant has the same guest number, cpus, real extents, device list and first memory in both"
pub record SamePlant (tables tables' : Tables) (memory memory' : List ℕ) (g : ℕ) : Type 0 where
  pub here : g < tables.guests
  pub there : g < tables'.guests
  pub cpus : (plant_at tables g).cpus ≡ (plant_at tables' g).cpus
  pub extents : SameReal (extents_of tables g) (extents_of tables' g)
  pub sources : (plant_at tables g).sources ≡ (plant_at tables' g).sources
  pub source : (plant_at tables g).source ≡ (plant_at tables' g).source
  pub byte : (a : ℕ) → byte_at (extents_of tables g) memory a ≡ byte_at (extents_of tables' g) memory' a

-- "it gets the same answers (those of demand 2) and ends with the same records, host pages aside, and memory"
pub record SameEnd (tables tables' : Tables) (memory memory' : List ℕ) (g : ℕ) (events events' : List Event) : Type 0 where
  pub answers : own_answers (belongs tables g) tables memory events ≡ own_answers (belongs tables' g) tables' memory' events'
  -- its record, extents aside, its valid ranges, and the byte at each real address
  pub guest : guest_after tables memory g events ≡ guest_after tables' memory' g events'
  -- its extents, host pages aside
  pub extents : SameReal (extents_of (tables_after tables memory events) g) (extents_of (tables_after tables' memory' events') g)

-- `demand_3`
abbrev pub Demand-3 : Type 0
Demand-3 =
    (bytes bytes' : List ℕ) (tables tables' : Tables) (memory memory' : List ℕ)
    → read_image bytes ≡ granted tables → long_enough tables (length memory) ≡ true
    → read_image bytes' ≡ granted tables' → long_enough tables' (length memory') ≡ true
    → (g : ℕ) → SamePlant tables tables' memory memory' g
    → (events events' : List Event) → own_events (belongs tables g) events ≡ own_events (belongs tables' g) events'
    → SameEnd tables tables' memory memory' g events events'

-- Ranges over extents that touch, in tables that keep the rules.

-- `each_byte`: "A range is valid .. if every one of its bytes lies in some extent of the guest", and only then.
pub record EachByte : Type 0 where
  pub valid_lies : (tables : Tables) → keep_rules tables ≡ true → (g : ℕ) → g < tables.guests
      → (a n : ℕ) → valid (extents_of tables g) a n ≡ true
      → (k : ℕ) → k < n → InSome (guest_at tables g).extents (a + k)
  pub lies_valid : (tables : Tables) → keep_rules tables ≡ true → (g : ℕ) → g < tables.guests
      → (a n : ℕ) → ((k : ℕ) → k < n → InSome (guest_at tables g).extents (a + k))
      → valid (extents_of tables g) a n ≡ true

-- `words_never_cross`, `entries_never_cross`: "Queue entries never cross it", nor does a word that stands on a multiple of 8.
abbrev pub WordsNeverCross : Type 0
WordsNeverCross = (tables : Tables) (g a : ℕ) → a % 8 ≡ 0 → valid (extents_of tables g) a 8 ≡ true → OneRun (extents_of tables g) a 8

abbrev pub EntriesNeverCross : Type 0
EntriesNeverCross =
    (tables : Tables) → keep_rules tables ≡ true → (g : ℕ) → g < tables.guests
    → (c q : ℕ) → c < (plant_at tables g).cpus → q < queue_limit
    → (ring : Ring) → queue_at (cpu_at (plant_at tables g) c) q ≡ QueueRecord.Set ring
    → (i : ℕ) → 64 * i < ring.size → OneRun (extents_of tables g) (ring.base + 64 * i) 64

-- Mondos whose list is sent again: "an entry that reads 0xffff is passed over".

-- `all_marked`: "a list of nothing but 0xffff answers EOK and writes nothing". The three tests before the list is read still refuse.
pub record AllMarkedSends : Type 0 where
  pub rule : (sight : Sight) (plant : Plant) (c : Call) → AllMarked sight c
      → cpu_mondo_send sight plant c.cpu c.arg0 c.arg1 c.arg2
      ≡ ((c.arg0 is_from 1 to 64) or_refuse EINVAL then
      (eqb (c.arg2 % 64) 0 && eqb (c.arg1 % 2) 0) or_refuse EBADALIGN then
      (sight.valid c.arg2 64 && sight.valid c.arg1 (2 * c.arg0)) or_refuse ENORADDR then
      done plant)
  -- so it leaves every record and every byte, whatever it answers
  pub unchanged : (tables : Tables) (memory : List ℕ) (c : Call) → MondoCall c → AllMarked (machine_of tables memory c.guest).sight c
      → Unchanged tables memory (host_event tables memory (Event.Call c))

-- `sent_again`: a send that was answered EWOULDBLOCK, then any events of any guests, then the same call once more. Where the second
-- is ready, it answers EOK, and each cpu has got the data, by both, as often as it stood in the list at first.
abbrev pub SentAgain : Type 0
SentAgain =
    (tables : Tables) (memory : List ℕ) (c : Call) (events : List Event) → Passes tables memory → MondoCall c
    → (host_event tables memory (Event.Call c)).answer ≡ Refused EWOULDBLOCK
    → let first : Machine = machine_of tables memory c.guest in
    let one : HostOutcome = host_event tables memory (Event.Call c) in
    let sent : Machine = machine_of one.tables one.memory c.guest in
    let second : Machine = guest_after one.tables one.memory c.guest events in
    let two : HostOutcome = host_event (tables_after one.tables one.memory events) (memory_after one.tables one.memory events) (Event.Call c) in
    let resent : Machine = machine_of two.tables two.memory c.guest in
    ReadyAgain c first sent second
    → (two.answer ≡ Done) × ((cpu : ℕ) → cpu < first.plant.cpus → GotInAll c cpu first sent second resent)

-- Interrupts go to cpu 0 at first (request No. 7).

-- `first_targets`: "After loading, each source's target shall be cpu 0", and it stays what it is until a call sets it. Nothing is
-- asked of the tables and the memory.
pub record FirstTargets : Type 0 where
  -- of every image, accepted or refused, every guest and every source, there or absent
  pub at_first_lem : (bytes : List ℕ) (g i : ℕ) → target_at (load bytes).tables g i ≡ 0
  -- no event but 0xa6 and 0xae changes a target: not going to 2.0, not a cookie, not a raise
  pub stays : (tables : Tables) (memory : List ℕ) (event : Event) → (SetsTarget event → ⊥)
      → (g i : ℕ) → target_at (host_event tables memory event).tables g i ≡ target_at tables g i

-- `received_why`: a raise that answers 1, received, finds its source disabled, or its target's 0x3d ring unset or full. None waits
-- for a call that sets a target.
abbrev pub ReceivedWhy : Type 0
ReceivedWhy =
    (tables : Tables) (memory : List ℕ) (d : Device)
    → (host_event tables memory (Event.Raise d)).answer ≡ One 1
    → Received tables d

-- A TSB hit (request No. 9).

-- `hits`: what a hit does, on every host that passes 101 and 102. A refused one changes nothing, by `refusal_changes_nothing`.
pub record Hits : Type 0 where
  -- it is counted where its cpu has a buffer
  pub counted : (tables : Tables) (memory : List ℕ) (t : TsbHit) → Passes tables memory → HitThere tables t → hit_named t ≡ true
      → (buffer_of tables t ≡ 0 → ⊥)
      → ((host_event tables memory (Event.Hit t)).answer ≡ Done) × Counted tables memory t (host_event tables memory (Event.Hit t))
  -- "With address 0 it answers EOK and does nothing."
  pub uncounted : (tables : Tables) (memory : List ℕ) (t : TsbHit) → Passes tables memory → HitThere tables t → hit_named t ≡ true
      → buffer_of tables t ≡ 0
      → ((host_event tables memory (Event.Hit t)).answer ≡ Done) × Unchanged tables memory (host_event tables memory (Event.Hit t))
  -- "EINVAL for a side, context mark or page index that isn't one of these", whatever the address
  pub unnamed : (tables : Tables) (memory : List ℕ) (t : TsbHit) → Passes tables memory → HitThere tables t → hit_named t ≡ false
      → (host_event tables memory (Event.Hit t)).answer ≡ Refused EINVAL
  -- no hit changes a record, on any host
  pub records_stay : (tables : Tables) (memory : List ℕ) (t : TsbHit) → (host_event tables memory (Event.Hit t)).tables ≡ tables
  -- each row lies in the 512 bytes of the buffer, and two hits share a word only where they are of the same row
  pub rows_inside : (t : TsbHit) → hit_named t ≡ true → hits_offset t.side t.context t.index + 16 ≤ 512
  pub rows_apart : (t u : TsbHit) → hit_named t ≡ true → hit_named u ≡ true
      → hits_offset t.side t.context t.index < hits_offset u.side u.context u.index + 16
      → hits_offset u.side u.context u.index < hits_offset t.side t.context t.index + 16
      → (t.side ≡ u.side) × (t.context ≡ u.context) × (t.index ≡ u.index)

-- The session.

-- `in_pieces_lem`: input in pieces of any size, each of which has room for its answers, prints what the whole input prints.
abbrev pub InPieces : Type 0
InPieces =
    (out : List ℕ) (pieces : List (List ℕ)) → Roomy out pieces
    → in_pieces out at_first (replicate 32768 0) pieces ≡ output (joined_up pieces)
