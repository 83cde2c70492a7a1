-- "TSB lists and memory", its second half: cases of 0x31, 0x32, store, load, 0x102 and 0x103. Ranges over extents that touch are
-- in SeamCases.antt.
use mathlib.Core.Path.{◌≡◌, refl}
use mathlib.Core.List.{List, [], ◌∷◌}
use Prim.Native.String.{String}
use Rattle.rules.specs.Session.{Session}
use Rattle.rules.proofs.Computing.{computing}
use Rattle.rules.proofs.Changes.{Row, rows, differing, comparing, statistics, word}
use Rattle.rules.proofs.Sessions.{Exchange, ◌prints◌, ◌prints◌setting◌, empty, given, after, heard, Cases, seven_with}

-- a guest of two cpus with two extents that touch: real pages 1 and 2 are host pages 0 and 1, and real page 3 is host page 2
abbrev pub two_extents : List String
two_extents =
    "image 11 240 0000001 0002 0000 0000003 0001 0002 0" ∷ "call 0 0 ff 0 1 1 0" ∷ "call 0 0 ff 0 200 1 0" ∷ []

abbrev pub words_and_pages : List Exchange
words_and_pages =
    -- a store sets one word, big-endian, on host page h+i for real page r+i: the first and last of both extents
    "store 0 2000 123456789abcdef" prints "0 0 0 0 0" setting (word 0 0x0123_4567_89ab_cdef ∷ [])
    ∷ "store 0 5ff8 22" prints "0 0 0 0 0" setting (word 0x3ff8 0x22 ∷ [])
    ∷ "store 0 6000 33" prints "0 0 0 0 0" setting (word 0x4000 0x33 ∷ [])
    ∷ "store 0 7ff8 fedcba9876543210" prints "0 0 0 0 0" setting (word 0x5ff8 0xfedc_ba98_7654_3210 ∷ [])
    -- "Load returns its word as value 1."
    ∷ "load 0 2000" prints "0 123456789abcdef 0 0 0"
    ∷ "load 0 6000" prints "0 33 0 0 0"
    ∷ "load 0 7ff8" prints "0 fedcba9876543210 0 0 0"
    -- "not on 8 EBADALIGN", before the range; "not valid ENORADDR"
    ∷ "load 0 2004" prints "8 0 0 0 0"
    ∷ "load 0 8004" prints "8 0 0 0 0"
    ∷ "load 0 8000" prints "2 0 0 0 0"
    ∷ "load 0 1ff8" prints "2 0 0 0 0"
    ∷ "load 0 fffffffffffffff8" prints "2 0 0 0 0"
    ∷ "store 0 2004 1" prints "8 0 0 0 0"
    ∷ "store 0 8001 1" prints "8 0 0 0 0"
    ∷ "store 0 8000 1" prints "2 0 0 0 0"
    ∷ "store 0 1ff8 1" prints "2 0 0 0 0"
    -- 0x31 and 0x32: "length 0 EINVAL", before the address
    ∷ "call 0 0 80 31 2000 0" prints "6 0 0 0 0"
    ∷ "call 0 0 80 32 2001 0" prints "6 0 0 0 0"
    -- "either not on 8,192 EBADALIGN", before the range
    ∷ "call 0 0 80 31 3000 2000" prints "8 0 0 0 0"
    ∷ "call 0 0 80 31 2000 1000" prints "8 0 0 0 0"
    ∷ "call 0 0 80 32 3000 2000" prints "8 0 0 0 0"
    ∷ "call 0 0 80 32 2000 2040" prints "8 0 0 0 0"
    ∷ "call 0 0 80 32 8040 2000" prints "8 0 0 0 0"
    -- "whole range not valid ENORADDR": behind the last extent, before the first, and a range may not pass 2^64
    ∷ "call 0 0 80 31 2000 8000" prints "2 0 0 0 0"
    ∷ "call 0 0 80 32 6000 4000" prints "2 0 0 0 0"
    ∷ "call 0 0 80 32 0 4000" prints "2 0 0 0 0"
    ∷ "call 0 0 80 31 ffffffffffffe000 8000" prints "2 0 0 0 0"
    -- 0x32 "returns length"
    ∷ "call 0 0 80 32 4000 2000" prints "0 2000 0 0 0"
    ∷ []

-- seven extents, of which the seventh is host page 0
abbrev pub seven_extents : List String
seven_extents = seven_with "000000c 0001 0000" ∷ []

abbrev pub late_words : List Exchange
late_words =
    "store 0 18000 a7" prints "0 0 0 0 0" setting (word 0 0xa7 ∷ [])
    ∷ "load 0 18000" prints "0 a7 0 0 0"
    ∷ "load 0 16000" prints "2 0 0 0 0"
    ∷ []

-- the rows that an accepted 0x31 changes. What it returns and writes is in AcceptedCalls.antt: its bytes take too long here.
abbrev pub scrub_changes : Session → List Row
scrub_changes s = differing (rows s.tables) (rows (given s "call 0 0 80 31 2000 2000").session.tables)

abbrev pub statistics_calls : List Exchange
statistics_calls =
    -- "Success returns the address before"; 0x103 "returns it", for the caller's cpu
    "call 0 0 80 102 2040" prints "0 0 0 0 0" setting (statistics 0 0 0x2040 ∷ [])
    ∷ "call 0 1 80 102 2000" prints "0 0 0 0 0" setting (statistics 0 1 0x2000 ∷ [])
    ∷ "call 0 0 80 103" prints "0 2040 0 0 0"
    ∷ "call 0 1 80 103" prints "0 2000 0 0 0"
    ∷ "call 0 0 80 102 2080" prints "0 2040 0 0 0" setting (statistics 0 0 0x2080 ∷ [])
    -- "not on 64 EBADALIGN", before the range, and the address is set to 0
    ∷ "call 0 0 80 102 2020" prints "8 0 0 0 0" setting (statistics 0 0 0 ∷ [])
    ∷ "call 0 1 80 102 1fe0" prints "8 0 0 0 0" setting (statistics 0 1 0 ∷ [])
    ∷ "call 0 0 80 103" prints "0 0 0 0 0"
    -- "512 bytes not valid ENORADDR", and the same; the last that fits
    ∷ "call 0 0 80 102 7e00" prints "0 0 0 0 0" setting (statistics 0 0 0x7e00 ∷ [])
    ∷ "call 0 0 80 102 7e40" prints "2 0 0 0 0" setting (statistics 0 0 0 ∷ [])
    ∷ "call 0 0 80 102 2000" prints "0 0 0 0 0" setting (statistics 0 0 0x2000 ∷ [])
    ∷ "call 0 0 80 102 1fc0" prints "2 0 0 0 0" setting (statistics 0 0 0 ∷ [])
    -- "address 0, tried first, sets 0 and is accepted": here 0 is not valid
    ∷ "call 0 0 80 102 2000" prints "0 0 0 0 0" setting (statistics 0 0 0x2000 ∷ [])
    ∷ "call 0 0 80 102 0" prints "0 2000 0 0 0" setting (statistics 0 0 0 ∷ [])
    ∷ []

pub record MemoryCases : Type 0 where
  pub words_pages : Cases 24576 two_extents words_and_pages
  pub late : Cases 57344 seven_extents late_words
  pub scrub_leaves : scrub_changes (after (empty 24576) two_extents) ≡ []
  pub mmustat : Cases 24576 two_extents statistics_calls

pub memory_cases : MemoryCases
unfolding computing comparing after heard
memory_cases = record { words_pages = refl; late = refl; scrub_leaves = refl; mmustat = refl }
