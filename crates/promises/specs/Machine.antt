-- The machine that has one plant alone. It has no neighbour and no host page.
use Rattle.std.specs.Prelude.{Bool, ◌&&◌, List, [], ◌∷◌, ℕ, ◌+◌, ◌-◌, leb, ltb, length, get_or, if◌then◌else◌}
use Rattle.rules.specs.declared.Answer.{Answer}
use Rattle.rules.specs.declared.Event.{Event}
use Rattle.rules.specs.declared.Plant.{Plant}
use Rattle.rules.specs.declared.Tables.{Tables}
use Rattle.rules.specs.Kept.{plant_at, extents_of}
use Rattle.rules.specs.Real.{Sight, sight_of, Write}
use Rattle.rules.specs.Rulings.{Outcome, outcome_of}
use Rattle.rules.specs.Host.{plant_rule}
use Rattle.promises.specs.Words.{tables_after, memory_after}

-- the plant's record, and its own real memory
pub record Machine : Type 0 where
  pub plant : Plant
  pub sight : Sight

-- a write has a byte for the real address a
abbrev pub covers : Write → ℕ → Bool
covers w a = leb w.at a && ltb a (w.at + length w.bytes)

-- real memory after a write: its bytes at those of its addresses that are the plant's own, all else as it was
abbrev pub written : Sight → Write → Sight
written sight w = record {
  valid = sight.valid;
  byte = λ a. if covers w a && sight.valid a 1 then get_or w.bytes (a - w.at) 0 else sight.byte a;
}

-- after a list of writes, in order
unfoldable pub all_written : Sight → List Write → Sight
all_written sight [] = sight
all_written sight (w ∷ ws) = all_written (written sight w) ws

-- what the machine does with an event: what the plant's rules say
abbrev pub did : Machine → Event → Outcome
did m event = outcome_of m.plant (plant_rule m.sight m.plant event)

-- what it is afterwards
abbrev pub moved : Machine → Event → Machine
moved m event = record { plant = (did m event).plant; sight = all_written m.sight (did m event).writes }

-- its answers to a list of events
unfoldable pub answers_alone : Machine → List Event → List Answer
answers_alone m [] = []
answers_alone m (e ∷ es) = (did m e).answer ∷ answers_alone (moved m e) es

-- what it is after them
unfoldable pub machine_after : Machine → List Event → Machine
machine_after m [] = m
machine_after m (e ∷ es) = machine_after (moved m e) es

-- guest g of a host, taken alone: its record, and what it sees of the host's memory
abbrev pub machine_of : Tables → List ℕ → ℕ → Machine
machine_of tables memory g = record { plant = plant_at tables g; sight = sight_of (extents_of tables g) memory }

-- guest g, taken alone, after a list of the host's events
abbrev pub guest_after : Tables → List ℕ → ℕ → List Event → Machine
guest_after tables memory g events = machine_of (tables_after tables memory events) (memory_after tables memory events) g
