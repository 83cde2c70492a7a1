-- "Entry to every event": which guest an event belongs to, what is tried before anything, and what the host's tables and
-- memory are afterwards.
use Rattle.std.specs.Prelude.{Bool, List, ℕ, ◌+◌, ◌*◌, leb, ltb, length, Option, Some, None}
use Rattle.rules.specs.Types.{Plant, Tables, Event, Answer, Refused, BadTables, ShortMemory, NoCaller, NoSource}
use Rattle.rules.specs.Limits.{guest_limit, extent_limit, page_size}
use Rattle.rules.specs.Scan.{all_below, first_below, is_found}
use Rattle.rules.specs.Kept.{plant_at, extents_of, with_plant}
use Rattle.rules.specs.Real.{Sight, sight_of, apply}
use Rattle.rules.specs.Image.{run_at}
use Rattle.rules.specs.Tables.{keep_rules}
use Rattle.rules.specs.Calls.{call}
use Rattle.rules.specs.Queues.{write_head}
use Rattle.rules.specs.Memory.{load_word, store_word}
use Rattle.rules.specs.Hits.{tsb_hit}
use Rattle.rules.specs.Sources.{sysino_of, raise}
use Rattle.rules.specs.Rulings.{Ruling, refused, granted, Outcome, outcome_of, ◌or_refuse◌then◌}

-- what a plant does with an event of its own, as if it were alone: "no such cpuid 103", then the event's rule
unfoldable pub plant_rule : Sight → Plant → Event → Ruling Outcome
plant_rule sight plant (Event.Call c) = ltb c.cpu plant.cpus or_refuse NoCaller then call sight plant c
plant_rule sight plant (Event.Head h) = ltb h.cpu plant.cpus or_refuse NoCaller then write_head plant h.cpu h.queue h.value
plant_rule sight plant (Event.Raise d) = raise plant d.devhandle d.devino
plant_rule sight plant (Event.Load l) = load_word sight plant l.address
plant_rule sight plant (Event.Store s) = store_word sight.valid plant s.address s.value
plant_rule sight plant (Event.Hit t) =
    ltb t.cpu plant.cpus or_refuse NoCaller then
    tsb_hit sight plant t.cpu t.side t.context t.index t.ticks

-- "An event belongs to the guest it names, a raise to the guest that has the source; a raise that answers 104 belongs to none."
unfoldable pub owner_of : Tables → Event → Option ℕ
owner_of tables (Event.Call c) = Some c.guest
owner_of tables (Event.Head h) = Some h.guest
owner_of tables (Event.Raise d) =
    first_below tables.guests (λ g. is_found (sysino_of (plant_at tables g) d.devhandle d.devino))
owner_of tables (Event.Load l) = Some l.guest
owner_of tables (Event.Store s) = Some s.guest
owner_of tables (Event.Hit t) = Some t.guest

-- the rule on memory (102): it does not end "before the end of any extent's host pages"
unfoldable pub long_enough : Tables → ℕ → Bool
long_enough tables n =
    all_below (guest_limit * extent_limit) (λ k. leb (((run_at tables k).host + (run_at tables k).count) * page_size) n)

-- what an event gives a host
pub record HostOutcome : Type 0 where
  pub answer : Answer
  pub tables : Tables
  pub memory : List ℕ

-- guest g's outcome, put back: its record, and each byte of each write where its extents say
abbrev pub put_back : Tables → List ℕ → ℕ → Outcome → HostOutcome
put_back tables memory g o = record {
  answer = o.answer;
  tables = with_plant tables g o.plant;
  memory = apply (extents_of tables g) memory o.writes;
}

-- the owner's plant answers; "no such guest 103 (raise: no such source 104)"
abbrev pub answered_by : Tables → List ℕ → Event → Option ℕ → Ruling HostOutcome
answered_by tables memory event None = refused NoSource
answered_by tables memory event (Some g) =
    ltb g tables.guests or_refuse NoCaller then
    granted
    (put_back tables memory g
    (outcome_of (plant_at tables g) (plant_rule (sight_of (extents_of tables g) memory) (plant_at tables g) event)))

-- "Before anything: tables that break a rule of this paper 101; memory that ends before the end of any extent's host pages
-- 102; no such guest or cpuid 103 (raise: no such source 104)."
unfoldable pub host_rule : Tables → List ℕ → Event → Ruling HostOutcome
host_rule tables memory event =
    keep_rules tables or_refuse BadTables then
    long_enough tables (length memory) or_refuse ShortMemory then
    answered_by tables memory event (owner_of tables event)

-- "These change nothing."
abbrev pub host_outcome_of : Tables → List ℕ → Ruling HostOutcome → HostOutcome
host_outcome_of tables memory (refused r) = record { answer = Refused r; tables = tables; memory = memory }
host_outcome_of tables memory (granted o) = o

unfoldable pub host_event : Tables → List ℕ → Event → HostOutcome
host_event tables memory event = host_outcome_of tables memory (host_rule tables memory event)
