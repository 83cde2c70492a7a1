-- Not vacuous: the paper's mondo to the list 1, 1, where cpu 1's ring has n 2, is left with EWOULDBLOCK, and is ready to be sent again
-- once cpu 1 has taken its entry.
use mathlib.Core.Path.{◌≡◌, refl, ap}
use mathlib.Core.Bool.{◌&&◌}
use mathlib.Core.List.{List, [], ◌∷◌}
use Prim.Native.Nat.{ℕ, zero, suc, ◌+◌, ◌%◌, ◌≤◌, ◌<◌}
use native.Mathlib.Omega.{arith}
use lib.Dec.{leb, ltb, eqb}
use Rattle.rules.specs.declared.Answer.TheVariants.{Done, Refused}
use Rattle.rules.specs.declared.Call.{Call}
use Rattle.rules.specs.declared.Event.{Event}
use Rattle.rules.specs.declared.HeadWrite.{HeadWrite}
use Rattle.rules.specs.declared.Plant.{Plant}
use Rattle.rules.specs.declared.QueueRecord.{QueueRecord}
use Rattle.rules.specs.declared.Refusal.TheVariants.{EINVAL, EBADALIGN, EWOULDBLOCK, NoCaller}
use Rattle.rules.specs.declared.Tables.{Tables}
use Rattle.rules.specs.Kept.{plant_at, cpu_at, queue_at, present, extents_of}
use Rattle.rules.specs.Real.{Sight, sight_of, byte_at, apply}
use Rattle.rules.specs.Rulings.{Outcome}
use Rattle.rules.specs.Queues.{is_queue, index_of, ring_of, forward, write_head}
use Rattle.rules.specs.Calls.{function_of, fast_function}
use Rattle.rules.specs.Host.{HostOutcome, plant_rule, host_event}
use Rattle.rules.proofs.Computing.{computing}
use Rattle.rules.proofs.Worked.{call, call_by, head_by, storing}
use Rattle.rules.proofs.Examples.{start, next, after}
use Rattle.promises.specs.Words.{tables_after, memory_after}
use Rattle.promises.specs.Machine.{Machine, machine_of, guest_after}
use Rattle.promises.specs.Resent.{MondoCall, times, list_of, mondo_ring, room_in, ring_base, ring_size, Apart, ApartFromRing, LieApart, ReadyAgain}
use Rattle.promises.proofs.Door.{at_door}
use Rattle.promises.proofs.Granting.{Granting, by_then, by_value, by_outcome}
use Rattle.promises.proofs.NotVacuous.{Passing, passes_after, worked_passes}
use Rattle.promises.proofs.Passing.{passes_next, steady_after}
use Rattle.promises.proofs.Resent.{sent_again}

-- the worked session's host, with cpu 1's ring, the list and the data
abbrev preparing : List Event
preparing = call 0xff 0 1 1 0 ∷ call_by 1 0x14 0x3c 0x80 2 ∷ storing 0 0 0x0001_0001_0000_0000 ∷ storing 0 0x40 0x1122_3344_5566_7788 ∷ []

abbrev pub listed : HostOutcome
listed = after start preparing

abbrev pub to_one_twice : Call
to_one_twice = record { guest = 0; cpu = 0; trap = 0x80; function = 0x42; arg0 = 2; arg1 = 0; arg2 = 0x40; arg3 = 0; arg4 = 0 }

abbrev pub sent_once : HostOutcome
sent_once = host_event listed.tables listed.memory (Event.Call to_one_twice)

-- cpu 1 takes its entry
abbrev taken : List Event
taken = head_by 1 0x3c 0x40 ∷ []

-- it passes 101 and 102
ready_host : Passing listed
ready_host = passes_after preparing start worked_passes

-- one is left
pub left_once : sent_once.answer ≡ Refused EWOULDBLOCK
unfolding computing next after
left_once = refl

-- a guest whose cpu 1 alone has a ring: the 128 bytes from 0x80 on
apart : (plant : Plant) (head tail : ℕ) → plant.cpus ≡ 2 → mondo_ring plant 0 ≡ QueueRecord.Unset → mondo_ring plant 1 ≡ QueueRecord.Set (record { base = 0x80; size = 128; head = head; tail = tail }) → LieApart plant to_one_twice
apart plant head tail two none one = record {
  list_data = λ x a b c d. omega arith;
  list_ring = far 0 4 (λ x a b c d. omega arith);
  data_ring = far 0x40 64 (λ x a b c d. omega arith);
  ring_ring = between;
}
  where
    far : (a n : ℕ) → Apart a n 0x80 128 → (cpu : ℕ) → cpu < plant.cpus → ApartFromRing plant cpu a n
    far a n f zero h = rw none (λ x p q r s. omega arith)
    far a n f (suc zero) h = rw one f
    far a n f (suc (suc cpu)) h = absurd (omega arith)

    between : (cpu other : ℕ) → cpu < plant.cpus → other < plant.cpus → (cpu ≡ other → ⊥) → ApartFromRing plant cpu (ring_base (mondo_ring plant other)) (ring_size (mondo_ring plant other))
    between zero zero h k d = absurd (d refl)
    between zero (suc other) h k d = rw none (λ x p q r s. omega arith)
    between (suc zero) zero h k d = rw none (λ x p q r s. omega arith)
    between (suc zero) (suc zero) h k d = absurd (d refl)
    between (suc zero) (suc (suc other)) h k d = absurd (omega arith)
    between (suc (suc cpu)) other h k d = absurd (omega arith)

abbrev second : Machine
second = guest_after sent_once.tables sent_once.memory 0 taken

-- a head write leaves memory, on every host
abbrev Silent : Outcome → Type 0
Silent o = o.writes ≡ []

head_silent : (sight : Sight) (plant : Plant) (h : HeadWrite) → Granting Silent (plant_rule sight plant (Event.Head h))
unfolding plant_rule write_head
head_silent sight plant h =
    by_then Silent (ltb h.cpu plant.cpus) NoCaller _
    (by_then Silent (is_queue h.queue) EINVAL _
    (by_value Silent (ring_of (queue_at (cpu_at plant h.cpu) (index_of h.queue))) _ (λ ring _.
    by_then Silent (eqb (h.value % 64) 0) EBADALIGN _
    (by_then Silent (ltb h.value ring.size && leb (forward ring h.value) (forward ring ring.tail)) EINVAL _ refl))))

head_leaves : (tables : Tables) (memory : List ℕ) (h : HeadWrite) → (host_event tables memory (Event.Head h)).memory ≡ memory
unfolding apply
head_leaves tables memory h =
    at_door (λ o. o.memory ≡ memory) tables memory (Event.Head h) (λ _ _. refl) (λ g _ _ _.
    let sight : Sight = sight_of (extents_of tables g) memory in
    ap (apply (extents_of tables g) memory) (by_outcome Silent (plant_at tables g) (plant_rule sight (plant_at tables g) (Event.Head h)) (λ r. refl) (head_silent sight (plant_at tables g) h)))

extents_same : extents_of (tables_after sent_once.tables sent_once.memory taken) 0 ≡ extents_of sent_once.tables 0
extents_same = ap present ((steady_after taken sent_once.tables sent_once.memory (passes_next listed.tables listed.memory ready_host (Event.Call to_one_twice))).extents 0)

memory_same : memory_after sent_once.tables sent_once.memory taken ≡ sent_once.memory
unfolding memory_after
memory_same = head_leaves sent_once.tables sent_once.memory (record { guest = 0; cpu = 1; queue = 0x3c; value = 0x40 })

bytes_kept : (a : ℕ) → second.sight.byte a ≡ (machine_of sent_once.tables sent_once.memory 0).sight.byte a
bytes_kept a = λ i. byte_at (extents_same i) (memory_same i) a

apart_first : LieApart (plant_at listed.tables 0) to_one_twice
unfolding computing next after
apart_first = apart (plant_at listed.tables 0) 0 0 refl refl refl

apart_second : LieApart second.plant to_one_twice
unfolding computing next after tables_after
apart_second = apart second.plant 64 64 refl refl refl

two_cpus_lem : second.plant.cpus ≡ 2
unfolding computing next after tables_after
two_cpus_lem = refl

-- each ring has room for what is left, cpu 1's for one
room_0 : times 0 (list_of second.sight to_one_twice) ≡ 0
unfolding computing next after tables_after memory_after times
room_0 = refl

room_1 : (times 1 (list_of second.sight to_one_twice) ≡ 1) × (room_in (mondo_ring second.plant 1) ≡ 1)
unfolding computing next after tables_after memory_after times
room_1 = (refl, refl)

room : (cpu : ℕ) → cpu < second.plant.cpus → times cpu (list_of second.sight to_one_twice) ≤ room_in (mondo_ring second.plant cpu)
room zero h = omega (arith, room_0)
room (suc zero) h = omega (arith, room_1.0, room_1.1)
room (suc (suc cpu)) h = absurd (omega (arith, two_cpus_lem))

-- all that a second send needs is there
pub ready_again : ReadyAgain to_one_twice (machine_of listed.tables listed.memory 0) (machine_of sent_once.tables sent_once.memory 0) second
ready_again = record {
  apart = apart_first;
  apart_again = apart_second;
  list_kept = λ k h. bytes_kept (0 + k);
  data_kept = λ k h. bytes_kept (0x40 + k);
  room = room;
}

is_mondo : MondoCall to_one_twice
unfolding function_of fast_function
is_mondo = refl

named_twice : times 1 (list_of (machine_of listed.tables listed.memory 0).sight to_one_twice) ≡ 2
unfolding computing next after times
named_twice = refl

-- So the list sent again answers EOK, and cpu 1, which stood there twice, has got the data twice.
pub worked_again : ((host_event (tables_after sent_once.tables sent_once.memory taken) (memory_after sent_once.tables sent_once.memory taken) (Event.Call to_one_twice)).answer ≡ Done)
    × (times 1 (list_of (machine_of listed.tables listed.memory 0).sight to_one_twice) ≡ 2)
worked_again = ((sent_again listed.tables listed.memory to_one_twice taken ready_host is_mondo left_once ready_again).0, named_twice)
