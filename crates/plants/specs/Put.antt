-- What the code that puts an entry into a ring gives back, and what it leaves in memory.
use Rattle.std.specs.Prelude.{◌≡◌, List, ℕ, Option, Some, None, if◌then◌else◌}
use Rattle.rules.specs.declared.Extents.{Extents}
use Rattle.rules.specs.declared.QueueRecord.{QueueRecord}
use Rattle.rules.specs.Real.{valid, apply}
use Rattle.rules.specs.Queues.{PutIn}
use Rattle.memory.specs.Ready.{present}
use Rattle.records.specs.Sound.{RecordSound}

-- the queue's record after, where there was a ring with room, and the memory after are what the rule makes of them
pub record PutsIn (extents : Extents) (p : PutIn) (before : List ℕ) (r : Option QueueRecord) (after : List ℕ) : Type 0 where
  pub held : r ≡ (if p.room then Some p.held else None)
  pub memory : after ≡ apply (present extents) before p.writes

-- what the code asks of the record: a ring lies in the guest's memory, with head and tail in it
abbrev pub HeldSound : Extents → QueueRecord → Type 0
HeldSound extents held = RecordSound (valid (present extents)) held
