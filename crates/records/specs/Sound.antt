-- What the rule on tables tells of a guest's records, as the facts that its calls need.
use Rattle.std.specs.Prelude.{◌≡◌, Bool, true, ℕ, ◌%◌, ◌≤◌, ◌<◌}
use Rattle.rules.specs.declared.Extents.{Extents}
use Rattle.rules.specs.declared.Plant.{Plant}
use Rattle.rules.specs.declared.QueueRecord.{QueueRecord}
use Rattle.rules.specs.declared.Ring.{Ring}
use Rattle.rules.specs.Kept.{cpu_at, queue_at, source_at}
use Rattle.rules.specs.Limits.{cpu_limit, extent_limit, source_limit}
use Rattle.rules.specs.Real.{valid}
use Rattle.memory.specs.Ready.{present, Ready}

-- a ring lies in valid memory, and its head and tail are places of it
pub record RingSound (valid : ℕ → ℕ → Bool) (ring : Ring) : Type 0 where
  pub within : valid ring.base ring.size ≡ true
  pub least : 128 ≤ ring.size
  pub most : ring.size ≤ 16384
  pub whole : ring.size % 64 ≡ 0
  pub head : ring.head % 64 ≡ 0
  pub head_below : ring.head < ring.size
  pub tail : ring.tail % 64 ≡ 0
  pub tail_below : ring.tail < ring.size

abbrev pub RecordSound : (ℕ → ℕ → Bool) → QueueRecord → Type 0
RecordSound valid QueueRecord.Unset = Unit {0}
RecordSound valid (QueueRecord.Set ring) = RingSound valid ring

-- a statistics address is 0, or its buffer lies in valid memory
abbrev pub BufferSound : (ℕ → ℕ → Bool) → ℕ → Type 0
BufferSound valid address = (address ≡ 0 → ⊥) → valid address 512 ≡ true

-- a guest with a memory of n bytes
pub record Sound (extents : Extents) (plant : Plant) (n : ℕ) : Type 0 where
  pub few : extents.extents ≤ extent_limit
  pub ready : Ready (present extents) n
  pub cpus : plant.cpus ≤ cpu_limit
  pub sources : plant.sources ≤ source_limit
  pub rings : (c q : ℕ) → c < plant.cpus → q < 4 → RecordSound (valid (present extents)) (queue_at (cpu_at plant c) q)
  pub buffers : (c : ℕ) → c < plant.cpus → BufferSound (valid (present extents)) (cpu_at plant c).statistics
  pub targets : (i : ℕ) → i < plant.sources → (source_at plant i).target < plant.cpus
