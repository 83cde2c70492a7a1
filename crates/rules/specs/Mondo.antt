-- "Queues and mondos": 0x42, a mondo to each cpu of a list (000, section 7.2.8).
use Rattle.std.specs.Prelude.{Bool, true, ◌&&◌, not, List, [], ◌∷◌, ◌++◌, ℕ, zero, suc, ◌+◌, ◌*◌, ◌%◌, leb, eqb, if◌then◌else◌}
use Rattle.rules.specs.Types.{Plant, Done, Refused, EINVAL, EBADALIGN, ENORADDR, ENOCPU, EWOULDBLOCK}
use Rattle.rules.specs.Scan.{some_below, ◌is_from◌to◌}
use Rattle.rules.specs.Real.{Sight, Write, number_of, bytes_from}
use Rattle.rules.specs.Rulings.{Ruling, granted, Outcome, ◌or_refuse◌then◌}
use Rattle.rules.specs.Queues.{Put, put}

-- cpu i of a list of cpus, and its first k: 2 bytes each
abbrev pub listed_cpu : (ℕ → ℕ) → ℕ → ℕ → ℕ
listed_cpu byte list i = number_of byte (list + 2 * i) 2

unfoldable pub listed_cpus : (ℕ → ℕ) → ℕ → ℕ → List ℕ
listed_cpus byte list zero = []
listed_cpus byte list (suc k) = listed_cpus byte list k ++ (listed_cpu byte list k ∷ [])

-- by request No. 1: "an entry that reads 0xffff is passed over. The caller and cpu checks look at the other entries only"
abbrev pub passed_over : ℕ → Bool
passed_over listed = eqb listed 0xffff

-- "any entry equal to the caller", of the others
abbrev pub is_caller : ℕ → ℕ → Bool
is_caller cpu listed = not (passed_over listed) && eqb listed cpu

-- "any entry that is no cpuid of the guest", of the others: its cpuids are those below the number of its cpus
abbrev pub is_stranger : ℕ → ℕ → Bool
is_stranger cpus listed = not (passed_over listed) && leb cpus listed

-- what sending has come to: the plant's record, whether none was left, and the writes
pub record Sent : Type 0 where
  pub plant : Plant
  pub all : Bool
  pub writes : List Write

-- "and the list entry becomes 0xffff": it stands at `at`
abbrev pub marked : ℕ → Bool → List Write
marked at sent = if sent then record { at = at; bytes = 0xff ∷ 0xff ∷ [] } ∷ [] else []

-- for an entry that is passed over nothing is done, and it is not left; for another, "if that cpu's 0x3c ring exists and has room,
-- the data is written at its tail, tail moves on, and the list entry becomes 0xffff"
unfoldable pub send_one : Plant → ℕ → List ℕ → ℕ → Sent
send_one plant cpu packet mark =
    if passed_over cpu then record { plant = plant; all = true; writes = [] } else
    let one : Put = put plant cpu 0x3c packet in
    record { plant = one.plant; all = one.room; writes = one.writes ++ marked mark one.room }

-- "Then in list order": each ring's room is judged as it is when its turn comes
unfoldable pub send_all : Plant → List ℕ → List ℕ → ℕ → Sent
send_all plant [] packet mark = record { plant = plant; all = true; writes = [] }
send_all plant (cpu ∷ cpus) packet mark =
    let one : Sent = send_one plant cpu packet mark in
    let rest : Sent = send_all one.plant cpus packet (mark + 2) in
    record { plant = rest.plant; all = one.all && rest.all; writes = one.writes ++ rest.writes }

-- "Any entry left: EWOULDBLOCK." What was sent stays sent.
abbrev pub sent_as : Sent → Outcome
sent_as sent = record { answer = if sent.all then Done else Refused EWOULDBLOCK; plant = sent.plant; writes = sent.writes }

module _ (sight : Sight) (plant : Plant) (cpu : ℕ) where
  open sight use {valid, byte}

  -- 0x42 (count, list, data): "count 0 or above 64 EINVAL; data not on 64 or list not on 2 EBADALIGN; 64 bytes of data or
  -- 2·count bytes of list not valid ENORADDR; any entry equal to the caller EINVAL; after that, any entry that is no cpuid
  -- of the guest .. ENOCPU. List and data are read once, before any write." (Left out: "(0xffff too)", by request No. 1.)
  unfoldable pub cpu_mondo_send : ℕ → ℕ → ℕ → Ruling Outcome
  cpu_mondo_send count list dataAt =
      (count is_from 1 to 64) or_refuse EINVAL then
      (eqb (dataAt % 64) 0 && eqb (list % 2) 0) or_refuse EBADALIGN then
      (valid dataAt 64 && valid list (2 * count)) or_refuse ENORADDR then
      not (some_below count (λ i. is_caller cpu (listed_cpu byte list i))) or_refuse EINVAL then
      not (some_below count (λ i. is_stranger plant.cpus (listed_cpu byte list i))) or_refuse ENOCPU then
      granted (sent_as (send_all plant (listed_cpus byte list count) (bytes_from byte dataAt 64) list))
