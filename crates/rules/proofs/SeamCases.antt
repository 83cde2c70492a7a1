-- "A range is valid from now on if every one of its bytes lies in some extent of the guest": cases of ranges over extents that
-- touch in real pages and lie apart on the host.
use mathlib.Core.Path.{◌≡◌, refl}
use mathlib.Core.List.{List, [], ◌∷◌, ◌++◌}
use Prim.Native.Nat.{◌-◌}
use Prim.Native.String.{String}
use lib.ListN.{replicate}
use Rattle.rules.specs.Types.{QueueRecord}
use Rattle.rules.specs.Kept.{plant_at, with_plant, with_queue}
use Rattle.rules.specs.Real.{word_bytes}
use Rattle.rules.specs.Session.{Session}
use Rattle.rules.proofs.Computing.{computing}
use Rattle.rules.proofs.Changes.{comparing, ring, tsbs, tsb, statistics, source, word}
use Rattle.rules.proofs.Sessions.{Exchange, ◌prints◌, ◌prints◌setting◌, empty, after, heard, Cases}

-- A guest of three cpus with two pages: real pages 0 and 1 are host pages 1 and 0.
abbrev pub touching : List String
touching =
    "image 11 340 0000000 0001 0001 0000001 0001 0000 0"
    ∷ "call 0 0 ff 0 1 1 0"
    ∷ "call 0 0 ff 0 200 1 0"
    ∷ "call 0 0 80 14 3c 2100 2"
    ∷ "call 0 1 80 14 3c 2180 2"
    ∷ []

-- Its memory: the words at 0x1ff0, 0x1ff8 and 0x2000 are a TSB descriptor of 1,024 entries with base 0, and at 0x1ffe the list 1, 0;
-- the data stands at 0x2040.
abbrev pub written : Session → Session
written s = record {
  tables = s.tables;
  memory = replicate 0x40 0 ++ word_bytes 0x77 ++ replicate (0x3ff0 - 0x48) 0 ++ word_bytes 0x1_0000_0400 ++ word_bytes 1;
}

abbrev pub over_seam : List Exchange
over_seam =
    -- both pages are a range; the page behind them is the guest's no more
    "call 0 0 80 32 0 4000" prints "0 4000 0 0 0"
    ∷ "call 0 0 80 32 0 6000" prints "2 0 0 0 0"
    ∷ "call 0 0 80 31 2000 ffffffffffffe000" prints "2 0 0 0 0"
    -- a statistics buffer over the seam, and one over the end
    ∷ "call 0 0 80 102 1e40" prints "0 0 0 0 0" setting (statistics 0 0 0x1e40 ∷ [])
    ∷ "call 0 0 80 102 3e40" prints "2 0 0 0 0" setting (statistics 0 0 0 ∷ [])
    -- a TSB descriptor of which two words lie on each side, for an area over the seam
    ∷ "call 0 0 80 20 1 1ff0" prints "0 0 0 0 0" setting (tsbs 0x20 0 0 1 ∷ tsb 0x20 0 0 0 0 1 1024 0 1 0 ∷ [])
    -- a cpu list of which each entry lies on its own side: both are read there, and marked there
    ∷ "call 0 2 80 42 2 1ffe 2040"
    prints "0 0 0 0 0"
    setting (ring 0 0 0x3c 0x2100 0x80 0 0x40
    ∷ ring 0 1 0x3c 0x2180 0x80 0 0x40
    ∷ word 0 0xffff_0000_0000_0000
    ∷ word 0x100 0x77
    ∷ word 0x180 0x77
    ∷ word 0x3ff8 0xffff
    ∷ [])
    -- a ring over the seam; its base is a multiple of its size as before
    ∷ "call 0 0 80 14 3c 0 100" prints "0 0 0 0 0" setting (ring 0 0 0x3c 0 0x4000 0 0 ∷ [])
    ∷ "call 0 0 80 14 3d 2000 100" prints "8 0 0 0 0"
    ∷ []

-- with a page between the two: both ends lie in extents, and the range does not
abbrev pub gap : List String
gap = "image 11 240 0000000 0001 0001 0000002 0001 0000 0" ∷ "call 0 0 ff 0 1 1 0" ∷ []

abbrev pub over_gap : List Exchange
over_gap =
    "call 0 0 80 32 0 6000" prints "2 0 0 0 0"
    ∷ "call 0 0 80 32 0 2000" prints "0 2000 0 0 0"
    ∷ "call 0 0 80 32 4000 2000" prints "0 2000 0 0 0"
    ∷ []

-- "any number of extents in a row": three
abbrev pub three : List String
three = "image 11 260 0000000 0001 0002 0000001 0001 0000 0000002 0001 0001" ∷ "call 0 0 ff 0 1 1 0" ∷ []

abbrev pub over_three : List Exchange
over_three = "call 0 0 80 32 0 6000" prints "0 6000 0 0 0" ∷ "call 0 0 80 32 0 8000" prints "2 0 0 0 0" ∷ []

-- The same two pages, and a source with a cookie for cpu 0, whose ring lies over the seam with its next entry the first behind it.
abbrev pub sending : List String
sending =
    "image 11 241 0000000 0001 0001 0000001 0001 0000 0000100 0b"
    ∷ "call 0 0 ff 0 1 1 0"
    ∷ "call 0 0 ff 0 2 2 0"
    ∷ "call 0 0 80 a8 100 5 800"
    ∷ "call 0 0 80 ae 100 5 0"
    ∷ "call 0 0 80 aa 100 5 1"
    ∷ []

abbrev pub half_passed : Session → Session
half_passed s = record {
  tables = with_plant s.tables 0 (with_queue (plant_at s.tables 0) 0 1 (QueueRecord.Set (record { base = 0; size = 0x4000; head = 0x1fc0; tail = 0x2000 })));
  memory = s.memory;
}

abbrev pub behind_seam : List Exchange
behind_seam =
    "raise 100 5"
    prints "0 2 0 0 0"
    setting (ring 0 0 0x3d 0 0x4000 0x1fc0 0x2040 ∷ source 0 0 1 2 0 0x800 ∷ word 0 0x800 ∷ [])
    ∷ []

pub record SeamCases : Type 0 where
  pub seam : heard (written (after (empty 16384) touching)) over_seam ≡ over_seam
  pub apart : Cases 16384 gap over_gap
  pub in_a_row : Cases 24576 three over_three
  pub behind : heard (half_passed (after (empty 16384) sending)) behind_seam ≡ behind_seam

pub seam_cases : SeamCases
unfolding computing comparing after heard
seam_cases = record { seam = refl; apart = refl; in_a_row = refl; behind = refl }
