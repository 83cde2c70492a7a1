-- Not vacuous: events on the worked session's host that are not refused, and what each of them does.
use mathlib.Core.Path.{◌≡◌, refl, ap}
use mathlib.Core.List.{List, [], ◌∷◌, ◌++◌}
use Prim.Native.Nat.{ℕ}
use native.Mathlib.Omega.{arith}
use lib.ListN.{replicate}
use Rattle.rules.specs.declared.Answer.TheVariants.{Done, One}
use Rattle.rules.specs.declared.Event.{Event}
use Rattle.rules.specs.declared.Guest.{Guest}
use Rattle.rules.specs.declared.QueueRecord.{QueueRecord}
use Rattle.rules.specs.declared.Tables.{Tables}
use Rattle.rules.specs.Kept.{blank_guest, with_versions, plant_at, cpu_at, queue_at, source_at, with_plant, with_queue}
use Rattle.rules.specs.Real.{word_bytes, bytes_from}
use Rattle.rules.specs.Host.{HostOutcome, host_event}
use Rattle.rules.proofs.Computing.{computing}
use Rattle.rules.proofs.Examples.{worked_guest, start, next, after, call, negotiated, ring, cookie}
use Rattle.rules.proofs.AcceptedCalls.{call_by, storing}
use Rattle.memory.specs.Cells.{cell}
use Rattle.promises.proofs.Elsewhere.{zeros}

-- the bytes of a host's memory from an offset on
abbrev pub bytes_at : HostOutcome → ℕ → ℕ → List ℕ
bytes_at o k n = bytes_from (cell o.memory) k n

-- the worked session's host with "groups negotiated, 2.0"
abbrev pub ready_guest : Guest
ready_guest = record {
  extents = (worked_guest 2 0 0x100).extents;
  plant = with_versions (worked_guest 2 0 0x100).plant (record { sun4v = 0; core = 1; interrupt = 2; statistics = 1 });
}

abbrev pub ready_tables : Tables
ready_tables = record { guests = 2; guest = ready_guest ∷ worked_guest 1 1 0x200 ∷ blank_guest ∷ blank_guest ∷ [] }

abbrev pub ready : HostOutcome
ready = after start negotiated

-- The calls that negotiate leave nothing but the versions of guest 0.
pub only_versions : (ready.tables ≡ ready_tables) × (ready.memory ≡ zeros)
unfolding computing next after
only_versions = (refl, refl)

-- 0x14 of 0x3c, base 0x80 n 2, is done: cpu 0's record is the ring, and nothing else changed.
pub ring_is_set : host_event ready_tables zeros (ring 0x80 2) ≡ record {
  answer = Done;
  tables = with_plant ready_tables 0 (with_queue ready_guest.plant 0 0 (QueueRecord.Set (record { base = 0x80; size = 128; head = 0; tail = 0 })));
  memory = zeros;
}
unfolding computing
ring_is_set = refl

abbrev pub stored : ℕ → HostOutcome
stored guest = next start (storing guest 0x100 0x0123_4567_89ab_cdef)

-- A store is done: the eight bytes from its host offset on were 0 and are the word's, the most significant first.
pub store_is_done : ((stored 0).answer ≡ Done) × (bytes_at start 0x100 8 ≡ replicate 8 0) × (bytes_at (stored 0) 0x100 8 ≡ 0x01 ∷ 0x23 ∷ 0x45 ∷ 0x67 ∷ 0x89 ∷ 0xab ∷ 0xcd ∷ 0xef ∷ [])
unfolding computing next
store_is_done = (refl, refl, refl)

-- Memory is not what it was.
pub store_changes_memory : (stored 0).memory ≡ start.memory → ⊥
unfolding computing next
store_changes_memory e = let z : ◌≡◌ {A = ℕ} 0xef 0 = ap (λ (m : List ℕ). cell m 0x107) e in omega arith

-- The same real address of guest 1 lies on its own page.
pub store_lies_elsewhere : bytes_at (stored 1) 0x2100 8 ≡ 0x01 ∷ 0x23 ∷ 0x45 ∷ 0x67 ∷ 0x89 ∷ 0xab ∷ 0xcd ∷ 0xef ∷ []
unfolding computing next
store_lies_elsewhere = refl

-- the host of the worked session before its raise
abbrev pub enabled : HostOutcome
enabled = after ready (call 0x80 0x14 0x3d 0x80 2 ∷ cookie 0x100 0x800 ∷ call 0x80 0xae 0x100 5 0 ∷ call 0x80 0xaa 0x100 5 1 ∷ [])

abbrev pub raised : HostOutcome
raised = next enabled (Event.Raise (record { devhandle = 0x100; devino = 5 }))

-- A raise is delivered: it tells the state after, writes the cookie and seven zero words, and the ring's tail moves on.
pub raise_is_delivered : (raised.answer ≡ One 2) × ((source_at (plant_at raised.tables 0) 0).state ≡ 2)
    × (bytes_at enabled 0x80 64 ≡ replicate 64 0) × (bytes_at raised 0x80 64 ≡ word_bytes 0x800 ++ replicate 56 0)
    × (queue_at (cpu_at (plant_at raised.tables 0) 0) 1 ≡ QueueRecord.Set (record { base = 0x80; size = 128; head = 0; tail = 64 }))
unfolding computing next after
raise_is_delivered = (refl, refl, refl, refl, refl)

-- the host before a mondo from cpu 0: cpu 1 has a ring, the list is 1, and the data's first and last words are set
abbrev pub addressed : HostOutcome
addressed = after ready (call_by 1 0x14 0x3c 0x80 2 ∷ storing 0 0 0x0001_0000_0000_0000 ∷ storing 0 0x40 0x1122_3344_5566_7788 ∷ storing 0 0x78 0x99aa_bbcc_ddee_ff00 ∷ [])

abbrev pub sent : HostOutcome
sent = next addressed (call_by 0 0x42 1 0 0x40)

abbrev pub packet : List ℕ
packet = word_bytes 0x1122_3344_5566_7788 ++ replicate 48 0 ++ word_bytes 0x99aa_bbcc_ddee_ff00

-- A mondo is delivered: the 64 bytes of data stand in the ring, its tail moves on, and the list reads 0xffff.
pub mondo_is_delivered : (sent.answer ≡ Done) × (bytes_at addressed 0x80 64 ≡ replicate 64 0) × (bytes_at sent 0x80 64 ≡ packet)
    × (bytes_at sent 0 2 ≡ 0xff ∷ 0xff ∷ [])
    × (queue_at (cpu_at (plant_at sent.tables 0) 1) 0 ≡ QueueRecord.Set (record { base = 0x80; size = 128; head = 0; tail = 64 }))
unfolding computing next after
mondo_is_delivered = (refl, refl, refl, refl, refl)
