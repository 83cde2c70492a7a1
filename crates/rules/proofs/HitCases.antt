-- The TSB hit (request No. 9): each row of 003's table, and cases of the event.
use mathlib.Core.Path.{◌≡◌, refl}
use mathlib.Core.Bool.{true}
use mathlib.Core.List.{List, [], ◌∷◌}
use Prim.Native.Nat.{ℕ, ◌+◌}
use Prim.Native.String.{String}
use Rattle.rules.specs.Types.{Plant}
use Rattle.rules.specs.Kept.{plant_at, with_plant, with_statistics}
use Rattle.rules.specs.Real.{Sight, Write, word_bytes}
use Rattle.rules.specs.Rulings.{outcome_of}
use Rattle.rules.specs.Hits.{tsb_hit}
use Rattle.rules.specs.Session.{Session}
use Rattle.rules.proofs.Computing.{computing}
use Rattle.rules.proofs.Worked.{worked_guest}
use Rattle.rules.proofs.Changes.{comparing, statistics, word}
use Rattle.rules.proofs.Sessions.{Exchange, ◌prints◌, ◌prints◌setting◌, empty, after, heard, Cases}

-- A row of 003's table, section 2.3: the side, the context and the page size of the TTE, and the offsets of its hits and ticks.
pub record Entry : Type 0 where
  pub side : ℕ
  pub context : ℕ
  pub index : ℕ
  pub hits : ℕ
  pub ticks : ℕ

-- its words, as the event numbers them
abbrev pub IMMU : ℕ
IMMU = 0

abbrev pub DMMU : ℕ
DMMU = 1

abbrev pub ctx0 : ℕ
ctx0 = 0

abbrev pub ctxnon0 : ℕ
ctxnon0 = 1

abbrev pub of_8kb : ℕ
of_8kb = 0

abbrev pub of_64kb : ℕ
of_64kb = 1

abbrev pub of_4mb : ℕ
of_4mb = 3

abbrev pub of_256mb : ℕ
of_256mb = 5

abbrev pub entry : ℕ → ℕ → ℕ → ℕ → ℕ → Entry
entry side context index hits ticks = record { side = side; context = context; index = index; hits = hits; ticks = ticks }

-- the table, in its order
abbrev pub table : List Entry
table =
    entry IMMU ctx0 of_8kb 0x0 0x8
    ∷ entry IMMU ctx0 of_64kb 0x10 0x18
    ∷ entry IMMU ctx0 of_4mb 0x30 0x38
    ∷ entry IMMU ctx0 of_256mb 0x50 0x58
    ∷ entry IMMU ctxnon0 of_8kb 0x80 0x88
    ∷ entry IMMU ctxnon0 of_64kb 0x90 0x98
    ∷ entry IMMU ctxnon0 of_4mb 0xb0 0xb8
    ∷ entry IMMU ctxnon0 of_256mb 0xd0 0xd8
    ∷ entry DMMU ctx0 of_8kb 0x100 0x108
    ∷ entry DMMU ctx0 of_64kb 0x110 0x118
    ∷ entry DMMU ctx0 of_4mb 0x130 0x138
    ∷ entry DMMU ctx0 of_256mb 0x150 0x158
    ∷ entry DMMU ctxnon0 of_8kb 0x180 0x188
    ∷ entry DMMU ctxnon0 of_64kb 0x190 0x198
    ∷ entry DMMU ctxnon0 of_4mb 0x1b0 0x1b8
    ∷ entry DMMU ctxnon0 of_256mb 0x1d0 0x1d8
    ∷ []

-- a plant whose cpu 1 has its buffer at 0x400, and a memory of zeros
abbrev pub buffered : Plant
buffered = with_statistics (worked_guest 2 0 0x100).plant 1 0x400

abbrev pub zeros : Sight
zeros = record { valid = λ a n. true; byte = λ a. 0 }

-- what a hit of 7 ticks writes there for each row: 1 at its hits and 7 at its ticks, and no more
unfoldable pub written : List Entry → List (List Write)
written [] = []
written (e ∷ es) = (outcome_of buffered (tsb_hit zeros buffered 1 e.side e.context e.index 7)).writes ∷ written es

unfoldable pub expected : List Entry → List (List Write)
expected [] = []
expected (e ∷ es) =
    (record { at = 0x400 + e.hits; bytes = word_bytes 1 } ∷ record { at = 0x400 + e.ticks; bytes = word_bytes 7 } ∷ []) ∷ expected es

-- the worked image; guest 0's cpus may set a statistics address
abbrev pub two_plants : List String
two_plants =
    "image 12 221 0000000 0001 0000 0000100 0b 121 0000000 0001 0001 0000200 0b" ∷ "call 0 0 ff 0 200 1 0" ∷ "call 1 0 ff 0 200 1 0" ∷ []

abbrev pub hits : List Exchange
hits =
    -- "With address 0 it answers EOK and does nothing."
    "hit 0 0 1 1 3 5" prints "0 0 0 0 0"
    -- "adds 1 to the hits word and the ticks to the ticks word"
    ∷ "call 0 0 80 102 400" prints "0 0 0 0 0" setting (statistics 0 0 0x400 ∷ [])
    ∷ "hit 0 0 1 1 3 5" prints "0 0 0 0 0" setting (word 0x5b0 1 ∷ word 0x5b8 5 ∷ [])
    ∷ "load 0 5b0" prints "0 1 0 0 0"
    ∷ "load 0 5b8" prints "0 5 0 0 0"
    -- "modulo 2^64", each by itself: the ticks do not carry into the hits, and the hits do not carry into the word before them
    ∷ "store 0 5b8 ffffffffffffffff" prints "0 0 0 0 0" setting (word 0x5b8 0xffff_ffff_ffff_ffff ∷ [])
    ∷ "hit 0 0 1 1 3 2" prints "0 0 0 0 0" setting (word 0x5b0 2 ∷ word 0x5b8 1 ∷ [])
    ∷ "store 0 5b0 ffffffffffffffff" prints "0 0 0 0 0" setting (word 0x5b0 0xffff_ffff_ffff_ffff ∷ [])
    ∷ "hit 0 0 1 1 3 ffffffffffffffff" prints "0 0 0 0 0" setting (word 0x5b0 0 ∷ word 0x5b8 0 ∷ [])
    ∷ "hit 0 0 0 0 3 8000000000000000" prints "0 0 0 0 0" setting (word 0x430 1 ∷ word 0x438 0x8000_0000_0000_0000 ∷ [])
    -- no ticks: the hits word alone
    ∷ "hit 0 0 0 0 0 0" prints "0 0 0 0 0" setting (word 0x400 1 ∷ [])
    -- "EINVAL for a side, context mark or page index that isn't one of these", of 64 bits each
    ∷ "hit 0 0 2 0 0 1" prints "6 0 0 0 0"
    ∷ "hit 0 0 100 0 0 1" prints "6 0 0 0 0"
    ∷ "hit 0 0 8000000000000000 0 0 1" prints "6 0 0 0 0"
    ∷ "hit 0 0 0 2 0 1" prints "6 0 0 0 0"
    ∷ "hit 0 0 0 10001 0 1" prints "6 0 0 0 0"
    ∷ "hit 0 0 0 ffffffffffffffff 0 1" prints "6 0 0 0 0"
    ∷ "hit 0 0 0 0 2 1" prints "6 0 0 0 0"
    ∷ "hit 0 0 0 0 4 1" prints "6 0 0 0 0"
    ∷ "hit 0 0 0 0 6 1" prints "6 0 0 0 0"
    ∷ "hit 0 0 0 0 100000003 1" prints "6 0 0 0 0"
    -- also where the address is 0; "the entry rules" come first
    ∷ "hit 0 1 0 0 4 0" prints "6 0 0 0 0"
    ∷ "hit 0 1 2 0 0 0" prints "6 0 0 0 0"
    ∷ "hit 0 1 0 2 0 0" prints "6 0 0 0 0"
    ∷ "hit 0 2 0 0 0 0" prints "67 0 0 0 0"
    ∷ "hit 0 2 2 2 2 0" prints "67 0 0 0 0"
    ∷ "hit 2 0 2 2 2 0" prints "67 0 0 0 0"
    -- "on a guest's cpu": each cpu has its own buffer, and each guest its own memory
    ∷ "hit 0 1 0 0 1 3" prints "0 0 0 0 0"
    ∷ "call 0 1 80 102 800" prints "0 0 0 0 0" setting (statistics 0 1 0x800 ∷ [])
    ∷ "hit 0 1 0 0 1 3" prints "0 0 0 0 0" setting (word 0x810 1 ∷ word 0x818 3 ∷ [])
    ∷ "hit 0 0 0 0 1 3" prints "0 0 0 0 0" setting (word 0x410 1 ∷ word 0x418 3 ∷ [])
    ∷ "hit 1 0 0 1 5 9" prints "0 0 0 0 0"
    ∷ "call 1 0 80 102 400" prints "0 0 0 0 0" setting (statistics 1 0 0x400 ∷ [])
    ∷ "hit 1 0 0 1 5 9" prints "0 0 0 0 0" setting (word 0x24d0 1 ∷ word 0x24d8 9 ∷ [])
    -- a refused 0x102 sets the address to 0
    ∷ "call 0 0 80 102 41" prints "8 0 0 0 0" setting (statistics 0 0 0 ∷ [])
    ∷ "hit 0 0 0 0 1 3" prints "0 0 0 0 0"
    ∷ []

-- two pages that touch, the other way round on the host, and a buffer over their seam
abbrev pub over_seam : List String
over_seam = "image 11 140 0000000 0001 0001 0000001 0001 0000 0" ∷ "call 0 0 ff 0 200 1 0" ∷ "call 0 0 80 102 1e40" ∷ []

abbrev pub seam_hits : List Exchange
seam_hits =
    "hit 0 0 1 1 1 b" prints "0 0 0 0 0" setting (word 0x3fd0 1 ∷ word 0x3fd8 0xb ∷ [])
    ∷ "hit 0 0 1 1 5 c" prints "0 0 0 0 0" setting (word 0x10 1 ∷ word 0x18 0xc ∷ [])
    ∷ []

-- No group is looked at: a buffer that is there without one, which no session leads to.
abbrev pub ungrouped : Session → Session
ungrouped s = record { tables = with_plant s.tables 0 (with_statistics (plant_at s.tables 0) 0 0x400); memory = s.memory }

abbrev pub one_page : List String
one_page = "image 11 120 0000000 0001 0000" ∷ []

abbrev pub ungrouped_hits : List Exchange
ungrouped_hits =
    "call 0 0 80 103" prints "7 0 0 0 0"
    ∷ "hit 0 0 1 0 1 d" prints "0 0 0 0 0" setting (word 0x510 1 ∷ word 0x518 0xd ∷ [])
    ∷ []

pub record HitCases : Type 0 where
  pub rows_of_003 : written table ≡ expected table
  pub at_one_lem : Cases 16384 two_plants hits
  pub seam : Cases 16384 over_seam seam_hits
  pub no_group : heard (ungrouped (after (empty 8192) one_page)) ungrouped_hits ≡ ungrouped_hits

pub hit_cases : HitCases
unfolding computing comparing after heard written expected
hit_cases = record { rows_of_003 = refl; at_one_lem = refl; seam = refl; no_group = refl }
