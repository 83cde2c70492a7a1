-- The steps of 0x42's rule that are functions of their own in the code.
use Rattle.std.specs.Prelude.{◌≡◌, Bool, ◌&&◌, not, List, ◌++◌, map, ℕ, ◌*◌, ◌%◌, leb, eqb}
use Rattle.rules.specs.declared.Answer.{Answer}
use Rattle.rules.specs.declared.Cpu.{Cpu}
use Rattle.rules.specs.declared.Extents.{Extents}
use Rattle.rules.specs.declared.Plant.{Plant}
use Rattle.rules.specs.declared.Queue.{Queue}
use Rattle.rules.specs.declared.QueueRecord.{QueueRecord}
use Rattle.rules.specs.declared.Refusal.TheVariants.{EINVAL, EBADALIGN, ENORADDR, ENOCPU}
use Rattle.rules.specs.Kept.{queue_at}
use Rattle.rules.specs.Scan.{some_below}
use Rattle.rules.specs.Real.{Sight, bytes_from, apply}
use Rattle.rules.specs.Rulings.{Ruling, granted, Outcome, ◌or_refuse◌then◌}
use Rattle.rules.specs.Queues.{PutIn, put_in, index_of}
use Rattle.rules.specs.Mondo.{listed_cpu, listed_cpus, is_caller, is_stranger, Sent, marked, send_all, sent_as}
use Rattle.memory.specs.Ready.{present}
use Rattle.plants.specs.declared.change.Change.{Change}
use Rattle.plants.specs.declared.change.Done.{Done}
use Rattle.plants.specs.Changes.{done_by}

-- what is asked before the list is read
unfoldable pub mondo_ranges : (ℕ → ℕ → Bool) → ℕ → ℕ → ℕ → Ruling Outcome → Ruling Outcome
mondo_ranges valid count list dataAt rest =
    (leb 1 count && leb count 64) or_refuse EINVAL then
    (eqb (dataAt % 64) 0 && eqb (list % 2) 0) or_refuse EBADALIGN then
    (valid dataAt 64 && valid list (2 * count)) or_refuse ENORADDR then
    rest

-- what is asked of the listed cpus
unfoldable pub mondo_cpus : (ℕ → ℕ) → ℕ → ℕ → ℕ → Ruling Outcome → Ruling Outcome
mondo_cpus listed count cpu cpus rest =
    not (some_below count (λ i. is_caller cpu (listed i))) or_refuse EINVAL then
    not (some_below count (λ i. is_stranger cpus (listed i))) or_refuse ENOCPU then
    rest

-- what follows the questions before the list is read
unfoldable pub mondo_sent : Sight → Plant → ℕ → ℕ → ℕ → ℕ → Ruling Outcome
mondo_sent sight plant cpu count list dataAt =
    mondo_cpus (listed_cpu sight.byte list) count cpu plant.cpus
    (granted (sent_as (send_all plant (listed_cpus sight.byte list count) (bytes_from sight.byte dataAt 64) list)))

-- the packet to one cpu's ring, and the mark in the list if it was put
unfoldable pub send_in : QueueRecord → List ℕ → ℕ → PutIn
send_in held packet mark =
    let p : PutIn = put_in held packet in
    record { room = p.room; held = p.held; writes = p.writes ++ marked mark p.room }

-- what sending has come to, as the code gives it back
pub record Told : Type 0 where
  pub plant : Plant
  pub all : Bool

-- what the code gives back, and what it leaves in memory, is what was sent
pub record Sends (extents : Extents) (sent : Sent) (before : List ℕ) (r : Told) (after : List ℕ) : Type 0 where
  pub plant : r.plant ≡ sent.plant
  pub all : r.all ≡ sent.all
  pub memory : after ≡ apply (present extents) before sent.writes

-- where the tail of a ring stands; a queue without a ring has none
unfoldable pub tail_of : QueueRecord → ℕ
tail_of QueueRecord.Unset = 0
tail_of (QueueRecord.Set ring) = ring.tail

-- the 0x3c queue of each cpu, and the tails of such queues
abbrev pub ring_in : Cpu → Queue
ring_in cpu = record { held = queue_at cpu (index_of 0x3c) }

unfoldable pub rings_of : Plant → List Queue
rings_of plant = map ring_in plant.cpu

abbrev pub tail_in : Queue → ℕ
tail_in queue = tail_of queue.held

unfoldable pub tails_of : List Queue → List ℕ
tails_of rings = map tail_in rings

-- an answer, with the tails of the 0x3c rings there
unfoldable pub sent_by : Answer → List ℕ → Done
sent_by answer tails = record { answer = answer; change = Change.Tails; tsbs = (done_by answer Change.Tails).tsbs; tails = tails }
