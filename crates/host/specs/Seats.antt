-- "Before anything", in the code's two steps: the door, which looks at tables and memory alone, and the guest that answers.
use Rattle.std.specs.Prelude.{ℕ, ltb, if◌then◌else◌, Option, Some, None, Result, Ok, Err}
use Rattle.rules.specs.declared.Event.{Event}
use Rattle.rules.specs.declared.Refusal.{Refusal}
use Rattle.rules.specs.declared.Refusal.TheVariants.{BadTables, ShortMemory, NoCaller, NoSource}
use Rattle.rules.specs.declared.Tables.{Tables}
use Rattle.rules.specs.Tables.{keep_rules}
use Rattle.rules.specs.Host.{owner_of, long_enough}
use Rattle.records.specs.Verdict.{Verdict}

-- where an event is answered: at a guest that is there, or nowhere, as it is refused
abbrev pub Seat : Type 0
Seat = Result ℕ Refusal

unfoldable pub door_of : Tables → ℕ → Verdict
door_of tables n =
    if keep_rules tables then if long_enough tables n then Ok tt else Err ShortMemory else Err BadTables

unfoldable pub seat_for : ℕ → Option ℕ → Seat
seat_for guests None = Err NoSource
seat_for guests (Some g) = if ltb g guests then Ok g else Err NoCaller

unfoldable pub seat_of : Tables → Verdict → Event → Seat
seat_of tables (Err r) event = Err r
seat_of tables (Ok u) event = seat_for tables.guests (owner_of tables event)
