-- The head write, as a rule of one ring.
use Rattle.std.specs.Prelude.{◌&&◌, ℕ, ◌%◌, ◌<◌, leb, ltb, eqb, Result, Ok, Err}
use Rattle.rules.specs.declared.Ring.{Ring}
use Rattle.rules.specs.declared.QueueRecord.{QueueRecord}
use Rattle.rules.specs.declared.Refusal.{Refusal}
use Rattle.rules.specs.declared.Refusal.TheVariants.{EINVAL, EBADALIGN}
use Rattle.rules.specs.Kept.{with_head}
use Rattle.rules.specs.Queues.{forward}
use Rattle.rules.specs.Rulings.{Ruling, refused, granted, ◌or_refuse◌then◌}

-- a ring's head and tail lie in it
pub record PlacesIn (ring : Ring) : Type 0 where
  pub head : ring.head < ring.size
  pub tail : ring.tail < ring.size

-- a record's ring is sound, where there is one
abbrev pub PlacesSound : QueueRecord → Type 0
PlacesSound QueueRecord.Unset = Unit
PlacesSound (QueueRecord.Set ring) = PlacesIn ring

-- the ring after its head is written
unfoldable pub new_head : Ring → ℕ → Ruling Ring
new_head ring value =
    eqb (value % 64) 0 or_refuse EBADALIGN then
    (ltb value ring.size && leb (forward ring value) (forward ring ring.tail)) or_refuse EINVAL then
    granted (with_head ring value)

-- the ruling as the code gives it
unfoldable pub moved_of : Ruling Ring → Result Ring Refusal
moved_of (refused r) = Err r
moved_of (granted ring) = Ok ring
