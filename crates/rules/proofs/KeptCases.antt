-- "What the host keeps": on a host where every kind of record is set, each event changes its own and leaves all others.
use mathlib.Core.Path.{refl}
use mathlib.Core.List.{List, [], ◌∷◌}
use Prim.Native.String.{String}
use Rattle.rules.proofs.Computing.{computing}
use Rattle.rules.proofs.Changes.{comparing, majors, unset, ring, tsbs, tsb, statistics, source, word}
use Rattle.rules.proofs.Sessions.{Exchange, ◌prints◌, ◌prints◌setting◌, after, heard, Cases}

-- Guest 0 has two cpus and two sources, guest 1 one of each. Both cpus of guest 0 have rings, both TSB lists and a statistics
-- address, and cpu 1 has an entry; its sources are enabled with a target, and one is received.
abbrev pub busy : List String
busy =
    "image 12 222 0000000 0001 0000 0000100 0b 0000100 0d 121 0000000 0001 0001 0000200 0b 0"
    ∷ "call 0 0 ff 0 1 1 0"
    ∷ "call 0 0 ff 0 2 1 0"
    ∷ "call 0 0 ff 0 200 1 0"
    ∷ "call 1 0 ff 0 1 1 0"
    ∷ "call 0 0 80 14 3c 100 2"
    ∷ "call 0 0 80 14 3d 180 2"
    ∷ "call 0 0 80 14 3e 200 2"
    ∷ "call 0 0 80 14 3f 280 2"
    ∷ "call 0 1 80 14 3c 300 4"
    ∷ "call 0 1 80 14 3d 400 2"
    ∷ "call 1 0 80 14 3c 80 2"
    ∷ "store 0 0 100000200"
    ∷ "store 0 8 1"
    ∷ "call 0 0 80 20 1 0"
    ∷ "call 0 0 80 21 1 0"
    ∷ "call 0 1 80 20 1 0"
    ∷ "call 0 1 80 21 1 0"
    ∷ "call 0 0 80 102 600"
    ∷ "call 0 1 80 102 800"
    ∷ "store 0 20 1000100000000"
    ∷ "call 0 0 80 42 1 20 40"
    ∷ "call 0 0 80 a2 0 1"
    ∷ "call 0 0 80 a4 0 1"
    ∷ "call 0 0 80 a6 0 1"
    ∷ "call 0 0 80 a2 1 1"
    ∷ "call 0 0 80 a6 1 0"
    ∷ []

abbrev pub changes_alone : List Exchange
changes_alone =
    "call 0 0 80 14 3d 500 4" prints "0 0 0 0 0" setting (ring 0 0 0x3d 0x500 0x100 0 0 ∷ [])
    ∷ "call 0 0 80 14 3e 0 0" prints "0 0 0 0 0" setting (unset 0 0 0x3e ∷ [])
    ∷ "call 0 0 80 20 0 0" prints "0 0 0 0 0" setting (tsbs 0x20 0 0 0 ∷ tsb 0x20 0 0 0 0 0 0 0 0 0 ∷ [])
    ∷ "call 0 1 80 21 0 0" prints "0 0 0 0 0" setting (tsbs 0x21 0 1 0 ∷ tsb 0x21 0 1 0 0 0 0 0 0 0 ∷ [])
    ∷ "call 0 0 80 102 640" prints "0 600 0 0 0" setting (statistics 0 0 0x640 ∷ [])
    ∷ "call 0 1 80 102 41" prints "8 0 0 0 0" setting (statistics 0 1 0 ∷ [])
    ∷ "head 0 1 3c 40" prints "0 0 0 0 0" setting (ring 0 1 0x3c 0x300 0x100 0x40 0x40 ∷ [])
    ∷ "call 0 0 80 42 1 22 40" prints "0 0 0 0 0" setting (ring 0 1 0x3c 0x300 0x100 0x40 0x80 ∷ word 0x20 0xffff_ffff_0000_0000 ∷ [])
    ∷ "call 0 0 80 a4 1 2" prints "0 0 0 0 0" setting (source 0 1 1 2 0 0 ∷ [])
    ∷ "raise 100 5" prints "0 2 0 0 0" setting (ring 0 1 0x3d 0x400 0x80 0 0x40 ∷ source 0 0 1 2 1 0 ∷ [])
    ∷ "call 0 0 ff 0 0 1 0" prints "0 0 0 0 0" setting (majors 0 1 1 1 1 ∷ [])
    ∷ "call 0 0 ff 0 2 2 0"
    prints "0 0 0 0 0"
    setting (majors 0 1 1 2 1 ∷ source 0 0 0 2 1 0 ∷ source 0 1 0 2 0 0 ∷ [])
    ∷ "call 1 0 80 14 3c 0 0" prints "0 0 0 0 0" setting (unset 1 0 0x3c ∷ [])
    ∷ "store 1 0 1" prints "0 0 0 0 0" setting (word 0x2000 1 ∷ [])
    ∷ "load 0 0" prints "0 100000200 0 0 0"
    ∷ "hit 0 0 1 0 0 7" prints "0 0 0 0 0" setting (word 0x740 1 ∷ word 0x748 7 ∷ [])
    ∷ []

pub record KeptCases : Type 0 where
  pub alone : Cases 16384 busy changes_alone

pub kept_cases : KeptCases
unfolding computing comparing after heard
kept_cases = record { alone = refl }
