-- "Queues and mondos": cases of 0x42.
use mathlib.Core.Path.{refl}
use mathlib.Core.List.{List, [], ◌∷◌}
use Prim.Native.String.{String}
use Rattle.rules.proofs.Computing.{computing}
use Rattle.rules.proofs.Changes.{comparing, ring, word}
use Rattle.rules.proofs.Sessions.{Exchange, ◌prints◌, ◌prints◌setting◌, after, heard, Cases}

-- A guest of three cpus and one page. The lists 1, 2, then 3, 0, then 0xffff stand at 0, 8 and 0x10; cpu 2 has a ring of two.
abbrev pub three_cpus : List String
three_cpus =
    "image 11 320 0000000 0001 0000"
    ∷ "call 0 0 ff 0 1 1 0"
    ∷ "store 0 0 1000200000000"
    ∷ "store 0 8 3000000000000"
    ∷ "store 0 10 ffff000000000000"
    ∷ "call 0 2 80 14 3c 80 2"
    ∷ []

abbrev pub mondo_refusals : List Exchange
mondo_refusals =
    -- "count 0 or above 64 EINVAL", before the alignment; a list of 64 zeros names cpu 0, which has no ring
    "call 0 0 80 42 0 0 40" prints "6 0 0 0 0"
    ∷ "call 0 0 80 42 0 1 41" prints "6 0 0 0 0"
    ∷ "call 0 1 80 42 41 400 40" prints "6 0 0 0 0"
    ∷ "call 0 1 80 42 40 400 40" prints "9 0 0 0 0"
    -- "data not on 64 or list not on 2 EBADALIGN", before the ranges
    ∷ "call 0 1 80 42 1 400 20" prints "8 0 0 0 0"
    ∷ "call 0 1 80 42 1 401 40" prints "8 0 0 0 0"
    ∷ "call 0 0 80 42 1 1 2000" prints "8 0 0 0 0"
    ∷ "call 0 0 80 42 1 2000 20" prints "8 0 0 0 0"
    -- "64 bytes of data or 2·count bytes of list not valid ENORADDR", before the entries; the last data and list that fit
    ∷ "call 0 0 80 42 2 8 2000" prints "2 0 0 0 0"
    ∷ "call 0 0 80 42 1 2000 40" prints "2 0 0 0 0"
    ∷ "call 0 0 80 42 2 1ffe 40" prints "2 0 0 0 0"
    ∷ "call 0 1 80 42 1 1ffe 1fc0" prints "9 0 0 0 0"
    -- "any entry equal to the caller EINVAL"; "after that, any entry that is no cpuid of the guest .. ENOCPU"
    ∷ "call 0 0 80 42 2 8 40" prints "6 0 0 0 0"
    ∷ "call 0 1 80 42 2 0 40" prints "6 0 0 0 0"
    ∷ "call 0 1 80 42 2 8 40" prints "1 0 0 0 0"
    -- "a list of nothing but 0xffff answers EOK and writes nothing"
    ∷ "call 0 0 80 42 1 10 40" prints "0 0 0 0 0"
    ∷ "call 0 1 80 42 8 2 40" prints "1 0 0 0 0"
    -- the entry behind the list is not read
    ∷ "call 0 1 80 42 1 2 40" prints "0 0 0 0 0" setting (ring 0 2 0x3c 0x80 0x80 0 0x40 ∷ word 0 0x0001_ffff_0000_0000 ∷ [])
    ∷ []

-- The list 1, 2, 2, 1 at 0, and data at 0x40 whose first and last words are set, and the word behind. Cpu 2 has a 0x3c ring of four; the one that
-- cpu 1 has is 0x3d.
abbrev pub mondo_ready : List String
mondo_ready =
    "image 11 320 0000000 0001 0000"
    ∷ "call 0 0 ff 0 1 1 0"
    ∷ "store 0 0 1000200020001"
    ∷ "store 0 40 1122334455667788"
    ∷ "store 0 78 99aabbccddeeff11"
    ∷ "store 0 80 7700000000000000"
    ∷ "store 0 200 77"
    ∷ "store 0 208 77"
    ∷ "call 0 1 80 14 3d 180 2"
    ∷ "call 0 2 80 14 3c 200 4"
    ∷ []

-- "in list order: if that cpu's 0x3c ring exists and has room, the data is written at its tail, tail moves on, and the list
-- entry becomes 0xffff. Any entry left: EWOULDBLOCK."
abbrev pub mondos_sent : List Exchange
mondos_sent =
    -- the first entry is left; the next two are sent, each to its own place
    "call 0 0 80 42 3 0 40"
    prints "9 0 0 0 0"
    setting (ring 0 2 0x3c 0x200 0x100 0 0x80
    ∷ word 0 0x0001_ffff_ffff_0001
    ∷ word 0x200 0x1122_3344_5566_7788
    ∷ word 0x208 0
    ∷ word 0x238 0x99aa_bbcc_ddee_ff11
    ∷ word 0x240 0x1122_3344_5566_7788
    ∷ word 0x278 0x99aa_bbcc_ddee_ff11
    ∷ [])
    -- none is left: EOK
    ∷ "call 0 1 80 14 3c 80 2" prints "0 0 0 0 0" setting (ring 0 1 0x3c 0x80 0x80 0 0 ∷ [])
    ∷ "call 0 0 80 42 1 6 40"
    prints "0 0 0 0 0"
    setting (ring 0 1 0x3c 0x80 0x80 0 0x40
    ∷ word 0 0x0001_ffff_ffff_ffff
    ∷ word 0x80 0x1122_3344_5566_7788
    ∷ word 0xb8 0x99aa_bbcc_ddee_ff11
    ∷ [])
    -- cpu 1's ring is full
    ∷ "call 0 0 80 42 1 0 40" prints "9 0 0 0 0"
    -- the list 1, 2: what is sent behind an entry that was left
    ∷ "store 0 0 1000200000000" prints "0 0 0 0 0" setting (word 0 0x0001_0002_0000_0000 ∷ [])
    ∷ "call 0 0 80 42 2 0 c0" prints "9 0 0 0 0" setting (ring 0 2 0x3c 0x200 0x100 0 0xc0 ∷ word 0 0x0001_ffff_0000_0000 ∷ [])
    ∷ []

-- cpus 1 and 2 have rings of two at 0x80 and 0x100; the list 1, 2 stands where cpu 1's entry will go
abbrev pub overlap_ready : List String
overlap_ready =
    "image 11 320 0000000 0001 0000"
    ∷ "call 0 0 ff 0 1 1 0"
    ∷ "call 0 1 80 14 3c 80 2"
    ∷ "call 0 2 80 14 3c 100 2"
    ∷ "store 0 80 1000200000000"
    ∷ "store 0 40 1111222233334444"
    ∷ []

-- "List and data are read once, before any write. List, data and rings may overlap; the writes happen in this order."
abbrev pub mondos_overlap : List Exchange
mondos_overlap =
    -- the data, then the mark; cpu 2 has its entry though the list was written over
    "call 0 0 80 42 2 80 40"
    prints "0 0 0 0 0"
    setting (ring 0 1 0x3c 0x80 0x80 0 0x40
    ∷ ring 0 2 0x3c 0x100 0x80 0 0x40
    ∷ word 0x80 0xffff_ffff_3333_4444
    ∷ word 0x100 0x1111_2222_3333_4444
    ∷ [])
    ∷ "head 0 1 3c 40" prints "0 0 0 0 0" setting (ring 0 1 0x3c 0x80 0x80 0x40 0x40 ∷ [])
    ∷ "head 0 2 3c 40" prints "0 0 0 0 0" setting (ring 0 2 0x3c 0x100 0x80 0x40 0x40 ∷ [])
    ∷ "store 0 40 1000200000000" prints "0 0 0 0 0" setting (word 0x40 0x0001_0002_0000_0000 ∷ [])
    -- the list in the data: cpu 2 has the data as it was before cpu 1's mark
    ∷ "call 0 0 80 42 2 40 40"
    prints "0 0 0 0 0"
    setting (ring 0 1 0x3c 0x80 0x80 0x40 0
    ∷ ring 0 2 0x3c 0x100 0x80 0x40 0
    ∷ word 0x40 0xffff_ffff_0000_0000
    ∷ word 0xc0 0x0001_0002_0000_0000
    ∷ word 0x140 0x0001_0002_0000_0000
    ∷ [])
    ∷ []

-- Cpu 1 has a ring of two at 0x80. The list 1, 1 stands at 0; the lists 0xffff, 0 and 0xffff, 2 at 8; 0xffff, 0xfffe at 0x10;
-- 1, 0xffff, 1 at 0x18.
abbrev pub resent_ready : List String
resent_ready =
    "image 11 220 0000000 0001 0000"
    ∷ "call 0 0 ff 0 1 1 0"
    ∷ "call 0 1 80 14 3c 80 2"
    ∷ "store 0 0 1000100000000"
    ∷ "store 0 8 ffff0000ffff0002"
    ∷ "store 0 10 fffffffe00000000"
    ∷ "store 0 18 1ffff00010000"
    ∷ "store 0 40 1122334455667788"
    ∷ []

-- "an entry that reads 0xffff is passed over. The caller and cpu checks look at the other entries only; a list of nothing but
-- 0xffff answers EOK and writes nothing."
abbrev pub mondos_resent : List Exchange
mondos_resent =
    -- one of two is sent; again, while the ring is full; again, when it has room; and once more
    "call 0 0 80 42 2 0 40" prints "9 0 0 0 0" setting (ring 0 1 0x3c 0x80 0x80 0 0x40 ∷ word 0 0xffff_0001_0000_0000 ∷ word 0x80 0x1122_3344_5566_7788 ∷ [])
    ∷ "call 0 0 80 42 2 0 40" prints "9 0 0 0 0"
    ∷ "head 0 1 3c 40" prints "0 0 0 0 0" setting (ring 0 1 0x3c 0x80 0x80 0x40 0x40 ∷ [])
    ∷ "call 0 0 80 42 2 0 40" prints "0 0 0 0 0" setting (ring 0 1 0x3c 0x80 0x80 0x40 0 ∷ word 0 0xffff_ffff_0000_0000 ∷ word 0xc0 0x1122_3344_5566_7788 ∷ [])
    ∷ "call 0 0 80 42 2 0 40" prints "0 0 0 0 0"
    -- of nothing but 0xffff the count, the alignment and the ranges are still tried
    ∷ "call 0 0 80 42 0 0 40" prints "6 0 0 0 0"
    ∷ "call 0 0 80 42 2 1 40" prints "8 0 0 0 0"
    ∷ "call 0 0 80 42 2 0 2000" prints "2 0 0 0 0"
    -- the other entry is the caller, or no cpuid, as 0xfffe is
    ∷ "call 0 0 80 42 2 8 40" prints "6 0 0 0 0"
    ∷ "call 0 0 80 42 2 c 40" prints "1 0 0 0 0"
    ∷ "call 0 0 80 42 2 10 40" prints "1 0 0 0 0"
    -- two that are sent and one between them
    ∷ "call 0 1 80 14 3c 100 4" prints "0 0 0 0 0" setting (ring 0 1 0x3c 0x100 0x100 0 0 ∷ [])
    ∷ "call 0 0 80 42 3 18 40"
    prints "0 0 0 0 0"
    setting (ring 0 1 0x3c 0x100 0x100 0 0x80
    ∷ word 0x18 0xffff_ffff_ffff_0000
    ∷ word 0x100 0x1122_3344_5566_7788
    ∷ word 0x140 0x1122_3344_5566_7788
    ∷ [])
    -- the list 1, 0xffff in the ring: the data is written over both, and the first alone is marked
    ∷ "call 0 1 80 14 3c 80 2" prints "0 0 0 0 0" setting (ring 0 1 0x3c 0x80 0x80 0 0 ∷ [])
    ∷ "store 0 80 1ffff00000000" prints "0 0 0 0 0" setting (word 0x80 0x0001_ffff_0000_0000 ∷ [])
    ∷ "call 0 0 80 42 2 80 40" prints "0 0 0 0 0" setting (ring 0 1 0x3c 0x80 0x80 0 0x40 ∷ word 0x80 0xffff_3344_5566_7788 ∷ [])
    -- the list 1, 1 in the ring, and data of ones: the second reads 0xffff by its turn, and is sent all the same
    ∷ "store 0 40 ffffffffffffffff" prints "0 0 0 0 0" setting (word 0x40 0xffff_ffff_ffff_ffff ∷ [])
    ∷ "call 0 1 80 14 3c 100 4" prints "0 0 0 0 0" setting (ring 0 1 0x3c 0x100 0x100 0 0 ∷ [])
    ∷ "store 0 100 1000100000000" prints "0 0 0 0 0" setting (word 0x100 0x0001_0001_0000_0000 ∷ [])
    ∷ "call 0 0 80 42 2 100 40"
    prints "0 0 0 0 0"
    setting (ring 0 1 0x3c 0x100 0x100 0 0x80 ∷ word 0x100 0xffff_ffff_ffff_ffff ∷ word 0x140 0xffff_ffff_ffff_ffff ∷ [])
    ∷ []

pub record MondoCases : Type 0 where
  pub refusals : Cases 8192 three_cpus mondo_refusals
  pub sent : Cases 8192 mondo_ready mondos_sent
  pub overlap : Cases 8192 overlap_ready mondos_overlap
  pub resent : Cases 8192 resent_ready mondos_resent

pub mondo_cases : MondoCases
unfolding computing comparing after heard
mondo_cases = record { refusals = refl; sent = refl; overlap = refl; resent = refl }
