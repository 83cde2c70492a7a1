-- "TSB lists and memory", its first half: cases of 0x20 and 0x21.
use mathlib.Core.Path.{◌≡◌, refl}
use mathlib.Core.List.{List, [], ◌∷◌, ◌++◌}
use Prim.Native.Nat.{ℕ, ◌+◌, ◌-◌, ◌*◌, ◌^◌}
use Prim.Native.String.{String}
use lib.ListN.{replicate}
use Rattle.rules.specs.Types.{Tables}
use Rattle.rules.specs.Real.{word_bytes}
use Rattle.rules.specs.Statuses.{numbers}
use Rattle.rules.specs.Host.{host_event}
use Rattle.rules.proofs.Computing.{computing}
use Rattle.rules.proofs.Worked.{call}
use Rattle.rules.proofs.Changes.{comparing, tsbs, tsb, word}
use Rattle.rules.proofs.Sessions.{Exchange, ◌prints◌, ◌prints◌setting◌, empty, after, heard, Cases}

-- A guest of two cpus and two pages. Right descriptors stand at 0 and 0x20, the first with its reserved word set; then others
-- at 0x40 and 0x60, of which the base is not valid and the index is not.
abbrev pub two_pages : List String
two_pages =
    "image 11 220 0000000 0002 0000"
    ∷ "call 0 0 ff 0 1 1 0"
    ∷ "store 0 0 100000200"
    ∷ "store 0 8 2b"
    ∷ "store 0 10 2000"
    ∷ "store 0 18 ffffffffffffffff"
    ∷ "store 0 20 1000100000400"
    ∷ "store 0 28 a"
    ∷ "store 0 40 3000100000200"
    ∷ "store 0 48 8"
    ∷ "store 0 50 4000"
    ∷ "store 0 60 2000100000200"
    ∷ []

abbrev pub tsb_lists : List Exchange
tsb_lists =
    -- "above 4 EINVAL", before the pointer
    "call 0 0 80 20 5 0" prints "6 0 0 0 0"
    ∷ "call 0 0 80 20 5 1" prints "6 0 0 0 0"
    -- "pointer not on 8 EBADALIGN", before the range
    ∷ "call 0 0 80 20 1 4" prints "8 0 0 0 0"
    ∷ "call 0 0 80 20 1 4004" prints "8 0 0 0 0"
    -- "32·ntsb bytes not valid ENORADDR", before the descriptors
    ∷ "call 0 0 80 20 1 3fe8" prints "2 0 0 0 0"
    ∷ "call 0 0 80 20 2 3fe0" prints "2 0 0 0 0"
    ∷ "call 0 0 80 20 1 3fe0" prints "4 0 0 0 0"
    -- "The first bad descriptor decides": the third of these, though the fourth has what is tried earlier
    ∷ "call 0 0 80 20 4 0" prints "2 0 0 0 0"
    ∷ "call 0 0 80 20 1 60" prints "4 0 0 0 0"
    -- stored: the caller's list alone, by 0x20 that for context 0 and by 0x21 that for the others
    ∷ "call 0 1 80 20 2 0"
    prints "0 0 0 0 0"
    setting (tsbs 0x20 0 1 2 ∷ tsb 0x20 0 1 0 0 1 512 0 0x2b 0x2000 ∷ tsb 0x20 0 1 1 1 1 1024 0 0xa 0 ∷ [])
    ∷ "call 0 0 80 21 1 0" prints "0 0 0 0 0" setting (tsbs 0x21 0 0 1 ∷ tsb 0x21 0 0 0 0 1 512 0 0x2b 0x2000 ∷ [])
    ∷ "call 0 0 80 21 1 20" prints "0 0 0 0 0" setting (tsb 0x21 0 0 0 1 1 1024 0 0xa 0 ∷ [])
    -- "All descriptors are stored or none": the third is bad
    ∷ "call 0 0 80 21 3 0" prints "2 0 0 0 0"
    ∷ "call 0 1 80 20 3 0" prints "2 0 0 0 0"
    ∷ "call 0 0 80 20 3 0" prints "2 0 0 0 0"
    -- a shorter list leaves nothing of the longer
    ∷ "call 0 1 80 20 1 0" prints "0 0 0 0 0" setting (tsbs 0x20 0 1 1 ∷ tsb 0x20 0 1 1 0 0 0 0 0 0 ∷ [])
    -- "ntsb 0 clears the list", whatever the pointer
    ∷ "call 0 1 80 21 0 0" prints "0 0 0 0 0"
    ∷ "call 0 1 80 20 0 1" prints "0 0 0 0 0" setting (tsbs 0x20 0 1 0 ∷ tsb 0x20 0 1 0 0 0 0 0 0 0 ∷ [])
    ∷ "call 0 0 80 21 0 1" prints "0 0 0 0 0" setting (tsbs 0x21 0 0 0 ∷ tsb 0x21 0 0 0 0 0 0 0 0 0 ∷ [])
    -- four, once all are right
    ∷ "store 0 50 2000" prints "0 0 0 0 0" setting (word 0x50 0x2000 ∷ [])
    ∷ "store 0 60 5000100000200" prints "0 0 0 0 0" setting (word 0x60 0x0005_0001_0000_0200 ∷ [])
    ∷ "store 0 68 20" prints "0 0 0 0 0" setting (word 0x68 0x20 ∷ [])
    ∷ "call 0 0 80 20 4 0"
    prints "0 0 0 0 0"
    setting (tsbs 0x20 0 0 4
    ∷ tsb 0x20 0 0 0 0 1 512 0 0x2b 0x2000
    ∷ tsb 0x20 0 0 1 1 1 1024 0 0xa 0
    ∷ tsb 0x20 0 0 2 3 1 512 0 8 0x2000
    ∷ tsb 0x20 0 0 3 5 1 512 0 0x20 0
    ∷ [])
    ∷ []

-- the same guest with no descriptor
abbrev pub ready : List String
ready = "image 11 220 0000000 0002 0000" ∷ "call 0 0 ff 0 1 1 0" ∷ []

-- One descriptor at 0, and the status of 0x20 with it
pub record Judged : Type 0 where
  pub memory : List ℕ
  pub status : ℕ

abbrev pub descriptor : ℕ → ℕ → ℕ → ℕ → ℕ → ℕ → ℕ → Judged
descriptor index associativity entries context mask base status = record {
  memory =
      word_bytes (index * 2 ^ 48 + associativity * 2 ^ 32 + entries)
      ++ word_bytes (context * 2 ^ 32 + mask)
      ++ word_bytes base
      ++ replicate (16384 - 24) 0;
  status = status;
}

abbrev pub descriptors : List Judged
descriptors =
    -- index, associativity, entries, context index, mask, base: right ones
    descriptor 0 1 512 0 1 0x2000 0
    ∷ descriptor 0 1 1024 0 0x2b 0 0
    ∷ descriptor 1 1 512 0 0x2a 0 0
    ∷ descriptor 3 1 512 0 0x28 0 0
    ∷ descriptor 5 1 512 0 0x20 0 0
    -- "index not 0, 1, 3 or 5 .. EBADPGSZ", before associativity
    ∷ descriptor 2 1 512 0 1 0x2000 4
    ∷ descriptor 4 2 512 0 1 0x2000 4
    ∷ descriptor 6 1 512 0 1 0x2000 4
    ∷ descriptor 0x100 1 512 0 1 0x2000 4
    -- "mask 0 or outside 0x2b EBADPGSZ"
    ∷ descriptor 0 1 512 0 0 0x2000 4
    ∷ descriptor 0 1 512 0 5 0x2000 4
    ∷ descriptor 0 1 512 0 0x11 0x2000 4
    ∷ descriptor 0 1 512 0 0x41 0x2000 4
    ∷ descriptor 0 2 512 0 0x8000_0001 0x2000 4
    -- "associativity not 1, entries no power of two from 512 to 1,048,576 EBADTSB", before the context index; two pages are too
    -- few for 1,048,576
    ∷ descriptor 0 0 512 0 1 0x2000 5
    ∷ descriptor 0 2 512 1 1 0x2000 5
    ∷ descriptor 0 1 256 0 1 0x2000 5
    ∷ descriptor 0 1 768 1 1 0x2000 5
    ∷ descriptor 0 1 2_097_152 0 1 0 5
    ∷ descriptor 0 1 1_048_576 0 1 0 2
    -- "context index not 0, page index not the lowest bit set in the mask EINVAL", before the base
    ∷ descriptor 0 1 512 1 1 0x2000 6
    ∷ descriptor 0 1 512 0x100_0000 1 0x2000 6
    ∷ descriptor 0 1 512 0 2 0x2000 6
    ∷ descriptor 1 1 512 0 3 0x2000 6
    ∷ descriptor 1 1 512 0 0x28 0x2000 6
    ∷ descriptor 3 1 512 0 1 0x2010 6
    ∷ descriptor 5 1 512 0 0x2b 0x2000 6
    -- "base not a multiple of 16·entries EBADALIGN", before the range
    ∷ descriptor 0 1 512 0 1 0x2010 8
    ∷ descriptor 0 1 1024 0 1 0x2000 8
    ∷ descriptor 0 1 512 0 1 0x4010 8
    -- "16·entries bytes not valid ENORADDR"
    ∷ descriptor 0 1 512 0 1 0x4000 2
    ∷ descriptor 0 1 2048 0 1 0 2
    ∷ descriptor 0 1 512 0 1 0xffff_ffff_ffff_e000 2
    ∷ []

-- what 0x20 answers on some tables with each of these memories; and the status and four zeros
unfoldable pub judgements : Tables → List Judged → List (List ℕ)
judgements tables [] = []
judgements tables (c ∷ cs) = numbers (host_event tables c.memory (call 0x80 0x20 1 0 0)).answer ∷ judgements tables cs

unfoldable pub statuses : List Judged → List (List ℕ)
statuses [] = []
statuses (c ∷ cs) = (c.status ∷ 0 ∷ 0 ∷ 0 ∷ 0 ∷ []) ∷ statuses cs

pub record TsbCases : Type 0 where
  pub lists : Cases 16384 two_pages tsb_lists
  pub judged : judgements (after (empty 16384) ready).tables descriptors ≡ statuses descriptors

pub tsb_cases : TsbCases
unfolding computing comparing after heard judgements statuses
tsb_cases = record { lists = refl; judged = refl }
