-- The words in which the promises speak of a host, which is its tables and its memory, and of events.
use Rattle.std.specs.Prelude.{◌≡◌, Bool, true, false, List, [], ◌∷◌, ◌⊎◌, ℕ, ◌+◌, ◌<◌, eqb, length, if◌then◌else◌, Option, Some, None}
use Rattle.rules.specs.declared.Answer.{Answer}
use Rattle.rules.specs.declared.Call.{Call}
use Rattle.rules.specs.declared.CookieCall.{CookieCall}
use Rattle.rules.specs.declared.Device.{Device}
use Rattle.rules.specs.declared.Event.{Event}
use Rattle.rules.specs.declared.Extent.{Extent}
use Rattle.rules.specs.declared.Extents.{Extents}
use Rattle.rules.specs.declared.Function.{Function}
use Rattle.rules.specs.declared.QueueRecord.{QueueRecord}
use Rattle.rules.specs.declared.Refusal.{Refusal}
use Rattle.rules.specs.declared.Refusal.TheVariants.{EBADALIGN, ENORADDR, EWOULDBLOCK}
use Rattle.rules.specs.declared.SourceCall.{SourceCall}
use Rattle.rules.specs.declared.Tables.{Tables}
use Rattle.rules.specs.Kept.{guest_at, plant_at, extent_at, extents_of, cpu_at, queue_at, source_at, with_plant, with_statistics}
use Rattle.rules.specs.Real.{holds, located}
use Rattle.rules.specs.Calls.{function_of}
use Rattle.rules.specs.Queues.{index_of, has_room}
use Rattle.rules.specs.Sources.{sysino_of}
use Rattle.rules.specs.Tables.{keep_rules}
use Rattle.rules.specs.Host.{HostOutcome, owner_of, long_enough, host_event}
use Rattle.memory.specs.Cells.{cell, owns}

-- the host passes 101 and 102
pub record Passes (tables : Tables) (memory : List ℕ) : Type 0 where
  pub keep : keep_rules tables ≡ true
  pub long : long_enough tables (length memory) ≡ true

-- the owner is guest g
abbrev pub is_owner : ℕ → Option ℕ → Bool
is_owner g None = false
is_owner g (Some h) = eqb h g

-- the event belongs to guest g
abbrev pub belongs : Tables → ℕ → Event → Bool
belongs tables g event = is_owner g (owner_of tables event)

-- the host's tables after a list of events
unfoldable pub tables_after : Tables → List ℕ → List Event → Tables
tables_after tables memory [] = tables
tables_after tables memory (e ∷ es) = tables_after (host_event tables memory e).tables (host_event tables memory e).memory es

-- the host's memory after them
unfoldable pub memory_after : Tables → List ℕ → List Event → List ℕ
memory_after tables memory [] = memory
memory_after tables memory (e ∷ es) = memory_after (host_event tables memory e).tables (host_event tables memory e).memory es

-- those events of a list that are a guest's own, in their order. `own` says which; it is `belongs` of the tables at first, since no
-- event changes whose another is.
unfoldable pub own_events : (Event → Bool) → List Event → List Event
own_events own [] = []
own_events own (e ∷ es) = if own e then e ∷ own_events own es else own_events own es

-- what the host answers to those, given all of the list
unfoldable pub own_answers : (Event → Bool) → Tables → List ℕ → List Event → List Answer
own_answers own tables memory [] = []
own_answers own tables memory (e ∷ es) =
    let o : HostOutcome = host_event tables memory e in
    let later : List Answer = own_answers own o.tables o.memory es in
    if own e then o.answer ∷ later else later

-- nothing of the host changed
abbrev pub Unchanged : Tables → List ℕ → HostOutcome → Type 0
Unchanged tables memory after = (after.tables ≡ tables) × (after.memory ≡ memory)

-- nothing of guest g changed: not its record, and no byte in the host pages of its extents
pub record Untouched (tables : Tables) (memory : List ℕ) (g : ℕ) (after : HostOutcome) : Type 0 where
  pub kept : guest_at after.tables g ≡ guest_at tables g
  pub bytes : (k : ℕ) → owns (extents_of tables g) k ≡ true → cell after.memory k ≡ cell memory k

-- a real address lies in some extent of the guest
pub record InSome (extents : Extents) (a : ℕ) : Type 0 where
  pub place : ℕ
  pub there : place < extents.extents
  pub has : holds (extent_at extents place) a ≡ true

-- the n bytes from a on lie one behind another on the host
pub record OneRun (extents : List Extent) (a n : ℕ) : Type 0 where
  pub host : ℕ
  pub bytes : (k : ℕ) → k < n → located extents (a + k) ≡ Some (record { 0 = host + k })

-- the same real extents, host pages aside
abbrev pub SameReal : List Extent → List Extent → Type 0
SameReal [] [] = Unit {0}
SameReal [] (y ∷ ys) = ⊥
SameReal (x ∷ xs) [] = ⊥
SameReal (x ∷ xs) (y ∷ ys) = (x.real ≡ y.real) × (x.count ≡ y.count) × SameReal xs ys

-- the function that a call asks for, by its trap and number; the other events ask for none
abbrev pub function_asked : Event → Option Function
function_asked (Event.Call c) = function_of c.trap c.function
function_asked (Event.Head h) = None
function_asked (Event.Raise d) = None
function_asked (Event.Load l) = None
function_asked (Event.Store s) = None
function_asked (Event.Hit t) = None

-- a call of 0x102
abbrev pub StatisticsCall : Event → Type 0
StatisticsCall event = function_asked event ≡ Some Function.MmustatConf

-- the refusals of 0x102 that "set the statistics address to 0"
abbrev pub Clears : Refusal → Type 0
Clears r = (r ≡ EBADALIGN) ⊎ (r ≡ ENORADDR)

-- the tables with the statistics address of the calling cpu 0
abbrev pub cleared : Tables → Call → Tables
cleared tables c = with_plant tables c.guest (with_statistics (plant_at tables c.guest) c.cpu 0)

-- the refusals that may change something: EWOULDBLOCK ("see mondo send"), and those two of 0x102
abbrev pub Excepted : Event → Refusal → Type 0
Excepted event r = (r ≡ EWOULDBLOCK) ⊎ (StatisticsCall event × Clears r)

-- the target of source i of guest g
abbrev pub target_at : Tables → ℕ → ℕ → ℕ
target_at tables g i = (source_at (plant_at tables g) i).target

-- the two functions that set a target, 0xa6 and 0xae
abbrev pub TargetFunction : Option Function → Type 0
TargetFunction f = (f ≡ Some (Function.Sysino SourceCall.SetTarget)) ⊎ (f ≡ Some (Function.Cookie (CookieCall.Source SourceCall.SetTarget)))

-- a call of one of them
abbrev pub SetsTarget : Event → Type 0
SetsTarget event = TargetFunction (function_asked event)

-- a queue that takes no entry: it is unset, or its ring is full
abbrev pub NoRoom : QueueRecord → Type 0
NoRoom QueueRecord.Unset = Unit {0}
NoRoom (QueueRecord.Set ring) = has_room ring ≡ false

-- why a raise leaves its source received: it is disabled, or the 0x3d queue of its target takes no entry
pub record Received (tables : Tables) (d : Device) : Type 0 where
  pub guest : ℕ
  pub source : ℕ
  pub owner : owner_of tables (Event.Raise d) ≡ Some guest
  pub found : sysino_of (plant_at tables guest) d.devhandle d.devino ≡ Some source
  pub why : ((source_at (plant_at tables guest) source).enabled ≡ 0)
      ⊎ NoRoom (queue_at (cpu_at (plant_at tables guest) (target_at tables guest source)) (index_of 0x3d))
