-- "Queues and mondos": cases of 0x14, 0x15, 0x16 and the head write.
use mathlib.Core.Path.{refl}
use mathlib.Core.List.{List, [], ◌∷◌}
use Prim.Native.String.{String}
use Rattle.rules.proofs.Computing.{computing}
use Rattle.rules.proofs.Changes.{comparing, unset, ring, word}
use Rattle.rules.proofs.Sessions.{Exchange, ◌prints◌, ◌prints◌setting◌, after, heard, Cases}

-- a guest of two cpus and two pages
abbrev pub two_cpus : List String
two_cpus = "image 11 220 0000000 0002 0000" ∷ "call 0 0 ff 0 1 1 0" ∷ []

abbrev pub ring_calls : List Exchange
ring_calls =
    -- "queue not 0x3c to 0x3f EINVAL", before n = 0
    "call 0 0 80 14 3b 0 2" prints "6 0 0 0 0"
    ∷ "call 0 0 80 14 40 0 2" prints "6 0 0 0 0"
    ∷ "call 0 0 80 14 40 0 0" prints "6 0 0 0 0"
    -- "n not a power of two, below 2 or above 256 EINVAL", before the base
    ∷ "call 0 0 80 14 3c 0 1" prints "6 0 0 0 0"
    ∷ "call 0 0 80 14 3c 0 3" prints "6 0 0 0 0"
    ∷ "call 0 0 80 14 3c 0 200" prints "6 0 0 0 0"
    ∷ "call 0 0 80 14 3c 1 3" prints "6 0 0 0 0"
    -- "base not a multiple of 64n EBADALIGN", before the range
    ∷ "call 0 0 80 14 3c 40 2" prints "8 0 0 0 0"
    ∷ "call 0 0 80 14 3c 2000 100" prints "8 0 0 0 0"
    ∷ "call 0 0 80 14 3c 4040 2" prints "8 0 0 0 0"
    -- "range not valid ENORADDR"
    ∷ "call 0 0 80 14 3c 4000 2" prints "2 0 0 0 0"
    ∷ "call 0 0 80 14 3c 4000 100" prints "2 0 0 0 0"
    -- 0x15: "both 0 if unset"
    ∷ "call 0 0 80 15 3c" prints "0 0 0 0 0"
    -- "Then head = tail = 0": the four rings of a cpu, each its own; the greatest, and the last place
    ∷ "call 0 0 80 14 3c 0 100" prints "0 0 0 0 0" setting (ring 0 0 0x3c 0 0x4000 0 0 ∷ [])
    ∷ "call 0 0 80 14 3d 2000 80" prints "0 0 0 0 0" setting (ring 0 0 0x3d 0x2000 0x2000 0 0 ∷ [])
    ∷ "call 0 0 80 14 3e 3f80 2" prints "0 0 0 0 0" setting (ring 0 0 0x3e 0x3f80 0x80 0 0 ∷ [])
    ∷ "call 0 1 80 14 3f 100 4" prints "0 0 0 0 0" setting (ring 0 1 0x3f 0x100 0x100 0 0 ∷ [])
    -- 0x15: "base and n"; "EINVAL for the queue"
    ∷ "call 0 0 80 15 3c" prints "0 0 100 0 0"
    ∷ "call 0 0 80 15 3d" prints "0 2000 80 0 0"
    ∷ "call 0 0 80 15 3e" prints "0 3f80 2 0 0"
    ∷ "call 0 0 80 15 3f" prints "0 0 0 0 0"
    ∷ "call 0 1 80 15 3f" prints "0 100 4 0 0"
    ∷ "call 0 0 80 15 3b" prints "6 0 0 0 0"
    ∷ "call 0 0 80 15 40" prints "6 0 0 0 0"
    -- a refusal leaves the ring; "n = 0 unsets and ignores base"
    ∷ "call 0 0 80 14 3d 2000 3" prints "6 0 0 0 0"
    ∷ "call 0 0 80 14 3d 1 0" prints "0 0 0 0 0" setting (unset 0 0 0x3d ∷ [])
    ∷ "call 0 0 80 15 3d" prints "0 0 0 0 0"
    -- 0x16: "cpuid"
    ∷ "call 0 0 80 16" prints "0 0 0 0 0"
    ∷ "call 0 1 80 16" prints "0 1 0 0 0"
    ∷ []

-- cpu 1 has a ring of four, to which cpu 0 sends the data at 0x40 by the lists at 0
abbrev pub ring_of_four : List String
ring_of_four =
    "image 11 220 0000000 0001 0000"
    ∷ "call 0 0 ff 0 1 1 0"
    ∷ "store 0 0 1000100010001"
    ∷ "store 0 40 11"
    ∷ "call 0 1 80 14 3c 100 4"
    ∷ "call 0 1 80 14 3e 200 2"
    ∷ []

abbrev pub head_writes : List Exchange
head_writes =
    -- "further forward from head than tail is, EINVAL": the ring is empty; head may be written where it is
    "head 0 1 3c 40" prints "6 0 0 0 0"
    ∷ "head 0 1 3c 0" prints "0 0 0 0 0"
    -- "it holds n-1"
    ∷ "call 0 0 80 42 2 0 40"
    prints "0 0 0 0 0"
    setting (ring 0 1 0x3c 0x100 0x100 0 0x80 ∷ word 0 0xffff_ffff_0001_0001 ∷ word 0x100 0x11 ∷ word 0x140 0x11 ∷ [])
    ∷ "call 0 0 80 42 2 4 40"
    prints "9 0 0 0 0"
    setting (ring 0 1 0x3c 0x100 0x100 0 0xc0 ∷ word 0 0xffff_ffff_ffff_0001 ∷ word 0x180 0x11 ∷ [])
    -- "queue number or unset EINVAL", before the value
    ∷ "head 0 1 3b 40" prints "6 0 0 0 0"
    ∷ "head 0 1 40 40" prints "6 0 0 0 0"
    ∷ "head 0 1 3d 1" prints "6 0 0 0 0"
    -- "value not a multiple of 64 EBADALIGN", before the size
    ∷ "head 0 1 3c 20" prints "8 0 0 0 0"
    ∷ "head 0 1 3c 101" prints "8 0 0 0 0"
    -- "value at or past the size", which is as far forward as head itself
    ∷ "head 0 1 3c 100" prints "6 0 0 0 0"
    ∷ "head 0 1 3c 140" prints "6 0 0 0 0"
    -- "A head write moves the one field of one ring and nothing else": there is room for one more, and the tail moves past the end
    ∷ "head 0 1 3c 40" prints "0 0 0 0 0" setting (ring 0 1 0x3c 0x100 0x100 0x40 0xc0 ∷ [])
    ∷ "store 0 40 22" prints "0 0 0 0 0" setting (word 0x40 0x22 ∷ [])
    ∷ "call 0 0 80 42 1 6 40"
    prints "0 0 0 0 0"
    setting (ring 0 1 0x3c 0x100 0x100 0x40 0 ∷ word 0 0xffff_ffff_ffff_ffff ∷ word 0x1c0 0x22 ∷ [])
    -- forward past the end to the tail, and neither back nor past it
    ∷ "head 0 1 3c 80" prints "0 0 0 0 0" setting (ring 0 1 0x3c 0x100 0x100 0x80 0 ∷ [])
    ∷ "head 0 1 3c 40" prints "6 0 0 0 0"
    ∷ "head 0 1 3c 0" prints "0 0 0 0 0" setting (ring 0 1 0x3c 0x100 0x100 0 0 ∷ [])
    ∷ "head 0 1 3c c0" prints "6 0 0 0 0"
    -- a ring that is set again has no entry, and memory stays
    ∷ "store 0 0 1000000000000" prints "0 0 0 0 0" setting (word 0 0x0001_0000_0000_0000 ∷ [])
    ∷ "call 0 0 80 42 1 0 40"
    prints "0 0 0 0 0"
    setting (ring 0 1 0x3c 0x100 0x100 0 0x40 ∷ word 0 0xffff_0000_0000_0000 ∷ word 0x100 0x22 ∷ [])
    ∷ "head 0 1 3c 40" prints "0 0 0 0 0" setting (ring 0 1 0x3c 0x100 0x100 0x40 0x40 ∷ [])
    ∷ "call 0 1 80 14 3c 100 4" prints "0 0 0 0 0" setting (ring 0 1 0x3c 0x100 0x100 0 0 ∷ [])
    ∷ []

pub record QueueCases : Type 0 where
  pub ring_calls_lem : Cases 16384 two_cpus ring_calls
  pub head_writes_lem : Cases 8192 ring_of_four head_writes

pub queue_cases : QueueCases
unfolding computing comparing after heard
queue_cases = record { ring_calls_lem = refl; head_writes_lem = refl }
