-- "Queues and mondos": 0x14, 0x15, 0x16, an entry put into a ring, and the head write (000, sections 7.2.6, 7.2.7 and 7.2.9).
use Rattle.std.specs.Prelude.{Bool, true, false, ◌&&◌, not, List, [], ◌∷◌, ℕ, ◌+◌, ◌-◌, ◌*◌, ◌/◌, ◌%◌, leb, ltb, eqb, if◌then◌else◌}
use Rattle.rules.specs.Types.{Ring, QueueRecord, Plant, Answer, One, Two, EINVAL, EBADALIGN, ENORADDR}
use Rattle.rules.specs.Kept.{cpu_at, queue_at, with_queue, with_head, with_tail}
use Rattle.rules.specs.Scan.{◌is_from◌to◌, power_of_two◌from◌to◌}
use Rattle.rules.specs.Real.{Write}
use Rattle.rules.specs.Rulings.{Ruling, refused, granted, Outcome, ◌or_refuse◌then◌, ◌grants◌, says, done}

-- "queue not 0x3c to 0x3f": the cpu's four records, in that order
abbrev pub is_queue : ℕ → Bool
is_queue queue = queue is_from 0x3c to 0x3f

abbrev pub index_of : ℕ → ℕ
index_of queue = queue - 0x3c

-- "n not a power of two, below 2 or above 256 EINVAL; base not a multiple of 64n EBADALIGN; range not valid ENORADDR.
-- Then head = tail = 0."
unfoldable pub new_ring : (ℕ → ℕ → Bool) → ℕ → ℕ → Ruling Ring
new_ring valid base n =
    (power_of_two n from 2 to 256) or_refuse EINVAL then
    eqb (base % (64 * n)) 0 or_refuse EBADALIGN then
    valid base (64 * n) or_refuse ENORADDR then
    granted (record { base = base; size = 64 * n; head = 0; tail = 0 })

-- "A ring is full when tail + 64, modulo its size, is head: it holds n-1."
abbrev pub next_tail : Ring → ℕ
next_tail ring = (ring.tail + 64) % ring.size

unfoldable pub has_room : Ring → Bool
has_room ring = not (eqb (next_tail ring) ring.head)

-- what putting an entry into a queue comes to: whether it has a ring with room, its record after, and the write
pub record PutIn : Type 0 where
  pub room : Bool
  pub held : QueueRecord
  pub writes : List Write

-- an entry of 64 bytes "is written at its tail, which moves on", if the ring "exists and has room"
unfoldable pub put_in : QueueRecord → List ℕ → PutIn
put_in QueueRecord.Unset entry = record { room = false; held = QueueRecord.Unset; writes = [] }
put_in (QueueRecord.Set ring) entry =
    if has_room ring
    then record {
      room = true;
      held = QueueRecord.Set (with_tail ring (next_tail ring));
      writes = record { at = ring.base + ring.tail; bytes = entry } ∷ [];
    }
    else record { room = false; held = QueueRecord.Set ring; writes = [] }

-- the same of a queue of a cpu, with the plant's record after. Every entry, of a mondo or of a raise, is put by this definition.
pub record Put : Type 0 where
  pub room : Bool
  pub plant : Plant
  pub writes : List Write

unfoldable pub put : Plant → ℕ → ℕ → List ℕ → Put
put plant cpu queue entry =
    let p : PutIn = put_in (queue_at (cpu_at plant cpu) (index_of queue)) entry in
    record { room = p.room; plant = with_queue plant cpu (index_of queue) p.held; writes = p.writes }

-- how far a place of the ring lies forward from its head
abbrev pub forward : Ring → ℕ → ℕ
forward ring place = (place + ring.size - ring.head) % ring.size

-- the ring of a record, "or unset EINVAL"
abbrev pub ring_of : QueueRecord → Ruling Ring
ring_of QueueRecord.Unset = refused EINVAL
ring_of (QueueRecord.Set ring) = granted ring

-- "base and n, both 0 if unset"
abbrev pub base_and_size : QueueRecord → Answer
base_and_size QueueRecord.Unset = Two 0 0
base_and_size (QueueRecord.Set ring) = Two ring.base (ring.size / 64)

-- 0x14 (queue, base, n): "n = 0 unsets and ignores base"
unfoldable pub cpu_qconf : (ℕ → ℕ → Bool) → Plant → ℕ → ℕ → ℕ → ℕ → Ruling Outcome
cpu_qconf valid plant cpu queue base n =
    is_queue queue or_refuse EINVAL then
    if eqb n 0 then done (with_queue plant cpu (index_of queue) QueueRecord.Unset) else
    new_ring valid base n grants λ ring.
    done (with_queue plant cpu (index_of queue) (QueueRecord.Set ring))

module _ (plant : Plant) (cpu : ℕ) where
  -- 0x15 (queue)
  unfoldable pub cpu_qinfo : ℕ → Ruling Outcome
  cpu_qinfo queue =
      is_queue queue or_refuse EINVAL then
      says (base_and_size (queue_at (cpu_at plant cpu) (index_of queue))) plant

  -- 0x16: "cpuid"
  unfoldable pub cpu_myid : Ruling Outcome
  cpu_myid = says (One cpu) plant

  -- head (queue, value): "queue number or unset EINVAL; value not a multiple of 64 EBADALIGN; value at or past the size, or
  -- further forward from head than tail is, EINVAL. A head write moves the one field of one ring and nothing else."
  unfoldable pub write_head : ℕ → ℕ → Ruling Outcome
  write_head queue value =
      is_queue queue or_refuse EINVAL then
      ring_of (queue_at (cpu_at plant cpu) (index_of queue)) grants λ ring.
      eqb (value % 64) 0 or_refuse EBADALIGN then
      (ltb value ring.size && leb (forward ring value) (forward ring ring.tail)) or_refuse EINVAL then
      done (with_queue plant cpu (index_of queue) (QueueRecord.Set (with_head ring value)))
