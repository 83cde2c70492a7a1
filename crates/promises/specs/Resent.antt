-- The words in which the promises speak of a mondo's list that is sent again.
use Rattle.std.specs.Prelude.{◌≡◌, List, [], ◌∷◌, ℕ, ◌+◌, ◌-◌, ◌*◌, ◌/◌, ◌%◌, ◌≤◌, ◌<◌, eqb, if◌then◌else◌, Some}
use Rattle.rules.specs.declared.Call.{Call}
use Rattle.rules.specs.declared.Function.{Function}
use Rattle.rules.specs.declared.Plant.{Plant}
use Rattle.rules.specs.declared.QueueRecord.{QueueRecord}
use Rattle.rules.specs.Kept.{cpu_at, queue_at, with_tail}
use Rattle.rules.specs.Real.{Sight, bytes_from}
use Rattle.rules.specs.Queues.{index_of, forward}
use Rattle.rules.specs.Mondo.{listed_cpu, listed_cpus}
use Rattle.rules.specs.Calls.{function_of}
use Rattle.promises.specs.Machine.{Machine}

-- a call of 0x42 (count, list, data)
abbrev pub MondoCall : Call → Type 0
MondoCall c = function_of c.trap c.function ≡ Some Function.CpuMondoSend

-- the entries of its list as they read, and the 64 bytes of data
abbrev pub list_of : Sight → Call → List ℕ
list_of sight c = listed_cpus sight.byte c.arg1 c.arg0

abbrev pub data_of : Sight → Call → List ℕ
data_of sight c = bytes_from sight.byte c.arg2 64

-- how often a cpu stands in a list
unfoldable pub times : ℕ → List ℕ → ℕ
times cpu [] = 0
times cpu (x ∷ xs) = (if eqb x cpu then 1 else 0) + times cpu xs

-- a cpu's 0x3c ring, and how many entries more it takes: of n it "holds n-1", and it has those from head to tail
abbrev pub mondo_ring : Plant → ℕ → QueueRecord
mondo_ring plant cpu = queue_at (cpu_at plant cpu) (index_of 0x3c)

abbrev pub room_in : QueueRecord → ℕ
room_in QueueRecord.Unset = 0
room_in (QueueRecord.Set ring) = ring.size / 64 - 1 - forward ring ring.tail / 64

-- no address is one of the n from a on and one of the k from b on
abbrev pub Apart : ℕ → ℕ → ℕ → ℕ → Type 0
Apart a n b k = (x : ℕ) → a ≤ x → x < a + n → b ≤ x → x < b + k → ⊥

-- the addresses of a ring; a queue without one has none
abbrev pub ring_base : QueueRecord → ℕ
ring_base QueueRecord.Unset = 0
ring_base (QueueRecord.Set ring) = ring.base

abbrev pub ring_size : QueueRecord → ℕ
ring_size QueueRecord.Unset = 0
ring_size (QueueRecord.Set ring) = ring.size

-- n addresses from a on are apart from a cpu's 0x3c ring
abbrev pub ApartFromRing : Plant → ℕ → ℕ → ℕ → Type 0
ApartFromRing plant cpu a n = Apart a n (ring_base (mondo_ring plant cpu)) (ring_size (mondo_ring plant cpu))

-- list, data and rings lie apart
pub record LieApart (plant : Plant) (c : Call) : Type 0 where
  pub list_data : Apart c.arg1 (2 * c.arg0) c.arg2 64
  pub list_ring : (cpu : ℕ) → cpu < plant.cpus → ApartFromRing plant cpu c.arg1 (2 * c.arg0)
  pub data_ring : (cpu : ℕ) → cpu < plant.cpus → ApartFromRing plant cpu c.arg2 64
  pub ring_ring : (cpu other : ℕ) → cpu < plant.cpus → other < plant.cpus → (cpu ≡ other → ⊥)
      → ApartFromRing plant cpu (ring_base (mondo_ring plant other)) (ring_size (mondo_ring plant other))

-- A ring has got a packet n times: its tail has moved on by n entries, fewer than go round, its other fields are as they were, and
-- each of the n reads the packet. A queue without a ring gets none.
abbrev pub Got : QueueRecord → QueueRecord → Sight → List ℕ → ℕ → Type 0
Got QueueRecord.Unset after sight packet n = (after ≡ QueueRecord.Unset) × (n ≡ 0)
Got (QueueRecord.Set ring) after sight packet n =
    (after ≡ QueueRecord.Set (with_tail ring ((ring.tail + 64 * n) % ring.size)))
    × (64 * n < ring.size)
    × ((k : ℕ) → k < n → bytes_from sight.byte (ring.base + (ring.tail + 64 * k) % ring.size) 64 ≡ packet)

-- what a send from `before` to `after` gave a cpu
abbrev pub GotFrom : Machine → Machine → ℕ → List ℕ → ℕ → Type 0
GotFrom before after cpu packet n = Got (mondo_ring before.plant cpu) (mondo_ring after.plant cpu) after.sight packet n

-- What a second send needs. The guest is `first` before the first send, `sent` after it, and `second` before it sends again.
pub record ReadyAgain (c : Call) (first sent second : Machine) : Type 0 where
  pub apart : LieApart first.plant c
  pub apart_again : LieApart second.plant c
  -- list and data are as the first send left them
  pub list_kept : (k : ℕ) → k < 2 * c.arg0 → second.sight.byte (c.arg1 + k) ≡ sent.sight.byte (c.arg1 + k)
  pub data_kept : (k : ℕ) → k < 64 → second.sight.byte (c.arg2 + k) ≡ sent.sight.byte (c.arg2 + k)
  -- "the receivers' rings have room": each for as many as the list still names its cpu
  pub room : (cpu : ℕ) → cpu < second.plant.cpus → times cpu (list_of second.sight c) ≤ room_in (mondo_ring second.plant cpu)

-- a cpu has got the data by the two sends, as often as it stood in the list before the first
pub record GotInAll (c : Call) (cpu : ℕ) (first sent second resent : Machine) : Type 0 where
  pub once : ℕ
  pub again : ℕ
  pub got_once : GotFrom first sent cpu (data_of first.sight c) once
  pub got_again : GotFrom second resent cpu (data_of first.sight c) again
  pub in_all : once + again ≡ times cpu (list_of first.sight c)

-- every entry of the list reads 0xffff
abbrev pub AllMarked : Sight → Call → Type 0
AllMarked sight c = (i : ℕ) → i < c.arg0 → listed_cpu sight.byte c.arg1 i ≡ 0xffff
