-- "Interrupt sources": cases of 0xa0 to 0xae and of raise.
use mathlib.Core.Path.{refl}
use mathlib.Core.List.{List, [], ◌∷◌}
use Prim.Native.String.{String}
use Rattle.rules.proofs.Computing.{computing}
use Rattle.rules.proofs.Changes.{comparing, majors, ring, source, word}
use Rattle.rules.proofs.Sessions.{Exchange, ◌prints◌, ◌prints◌setting◌, after, heard, Cases}

-- Guest 0 has two cpus and three sources, of which the third has no cookie support; guest 1 has one of each. Group 2 is at 1.0.
abbrev pub at_one : List String
at_one =
    "image 12 223 0000000 0001 0000 0000100 0b 0000100 0d 0000101 0a 121 0000000 0001 0001 0000200 0b"
    ∷ "call 0 0 ff 0 1 1 0"
    ∷ "call 0 0 ff 0 2 1 0"
    ∷ "call 1 0 ff 0 2 1 0"
    ∷ []

abbrev pub by_sysino : List Exchange
by_sysino =
    -- "Sysino is the position in the guest's own list"; cookie support is not looked at
    "call 0 0 80 a0 100 5" prints "0 0 0 0 0"
    ∷ "call 0 0 80 a0 100 6" prints "0 1 0 0 0"
    ∷ "call 0 0 80 a0 101 5" prints "0 2 0 0 0"
    ∷ "call 1 0 80 a0 200 5" prints "0 0 0 0 0"
    -- "source not the caller's EINVAL, a neighbour's and a missing one alike"
    ∷ "call 0 0 80 a0 200 5" prints "6 0 0 0 0"
    ∷ "call 0 0 80 a0 101 6" prints "6 0 0 0 0"
    ∷ "call 1 0 80 a0 100 5" prints "6 0 0 0 0"
    ∷ "call 0 0 80 a1 3" prints "6 0 0 0 0"
    ∷ "call 0 0 80 a2 3 0" prints "6 0 0 0 0"
    ∷ "call 1 0 80 a3 1" prints "6 0 0 0 0"
    ∷ "call 0 0 80 a4 3 0" prints "6 0 0 0 0"
    ∷ "call 0 0 80 a5 3" prints "6 0 0 0 0"
    -- before "no such cpuid ENOCPU"
    ∷ "call 0 0 80 a6 3 2" prints "6 0 0 0 0"
    -- "bad value EINVAL; no such cpuid ENOCPU"
    ∷ "call 0 0 80 a2 1 2" prints "6 0 0 0 0"
    ∷ "call 0 0 80 a4 1 3" prints "6 0 0 0 0"
    ∷ "call 0 0 80 a6 1 2" prints "1 0 0 0 0"
    -- "get and set enabled (0 or 1), state (idle 0, received 1, delivered 2), target"; by request
    -- No. 7: "After loading, each source's target shall be cpu 0"
    ∷ "call 0 0 80 a5 1" prints "0 0 0 0 0"
    ∷ "call 0 0 80 a2 1 1" prints "0 0 0 0 0" setting (source 0 1 1 0 0 0 ∷ [])
    ∷ "call 0 0 80 a4 1 2" prints "0 0 0 0 0" setting (source 0 1 1 2 0 0 ∷ [])
    ∷ "call 0 0 80 a6 1 1" prints "0 0 0 0 0" setting (source 0 1 1 2 1 0 ∷ [])
    ∷ "call 0 0 80 a6 2 1" prints "0 0 0 0 0" setting (source 0 2 0 0 1 0 ∷ [])
    ∷ "call 0 0 80 a6 2 0" prints "0 0 0 0 0" setting (source 0 2 0 0 0 0 ∷ [])
    ∷ "call 0 0 80 a1 1" prints "0 1 0 0 0"
    ∷ "call 0 0 80 a3 1" prints "0 2 0 0 0"
    ∷ "call 0 0 80 a5 1" prints "0 1 0 0 0"
    ∷ "call 0 0 80 a4 1 1" prints "0 0 0 0 0" setting (source 0 1 1 1 1 0 ∷ [])
    ∷ "call 0 0 80 a2 1 0" prints "0 0 0 0 0" setting (source 0 1 0 1 1 0 ∷ [])
    ∷ "call 0 0 80 a4 1 0" prints "0 0 0 0 0" setting (source 0 1 0 0 1 0 ∷ [])
    ∷ []

-- the same guests, with group 2 of guest 0 at 2.0
abbrev pub at_two : List String
at_two =
    "image 12 223 0000000 0001 0000 0000100 0b 0000100 0d 0000101 0a 121 0000000 0001 0001 0000200 0b"
    ∷ "call 0 0 ff 0 1 1 0"
    ∷ "call 0 0 ff 0 2 2 0"
    ∷ []

abbrev pub by_name : List Exchange
by_name =
    -- "source not the caller's EINVAL", by each of them: Examples.antt. Here a devino that the handle does not have
    "call 0 0 80 a7 101 6" prints "6 0 0 0 0"
    -- "no cookie support, ENOTSUPPORTED", before the value
    ∷ "call 0 0 80 a7 101 5" prints "d 0 0 0 0"
    ∷ "call 0 0 80 a8 101 5 1" prints "d 0 0 0 0"
    ∷ "call 0 0 80 a9 101 5" prints "d 0 0 0 0"
    ∷ "call 0 0 80 ae 101 5 2" prints "d 0 0 0 0"
    -- "bad value EINVAL": "Cookie 1 to 2,047 EINVAL", "enabled (0 or 1)", "state"; "no such cpuid ENOCPU"
    ∷ "call 0 0 80 a8 100 6 1" prints "6 0 0 0 0"
    ∷ "call 0 0 80 a8 100 6 7ff" prints "6 0 0 0 0"
    ∷ "call 0 0 80 aa 100 6 2" prints "6 0 0 0 0"
    ∷ "call 0 0 80 ac 100 6 3" prints "6 0 0 0 0"
    ∷ "call 0 0 80 ae 100 6 2" prints "1 0 0 0 0"
    -- "Under 2.0, enabling with cookie 0 EINVAL"; disabling is none
    ∷ "call 0 0 80 aa 100 6 1" prints "6 0 0 0 0"
    ∷ "call 0 0 80 aa 100 6 0" prints "0 0 0 0 0"
    ∷ "call 0 0 80 ad 100 6" prints "0 0 0 0 0"
    -- get and set
    ∷ "call 0 0 80 a8 100 6 800" prints "0 0 0 0 0" setting (source 0 1 0 0 0 0x800 ∷ [])
    ∷ "call 0 0 80 aa 100 6 1" prints "0 0 0 0 0" setting (source 0 1 1 0 0 0x800 ∷ [])
    ∷ "call 0 0 80 ac 100 6 2" prints "0 0 0 0 0" setting (source 0 1 1 2 0 0x800 ∷ [])
    ∷ "call 0 0 80 ae 100 6 1" prints "0 0 0 0 0" setting (source 0 1 1 2 1 0x800 ∷ [])
    ∷ "call 0 0 80 a8 100 6 ffffffffffffffff" prints "0 0 0 0 0" setting (source 0 1 1 2 1 0xffff_ffff_ffff_ffff ∷ [])
    ∷ "call 0 0 80 a7 100 6" prints "0 ffffffffffffffff 0 0 0"
    ∷ "call 0 0 80 a9 100 6" prints "0 1 0 0 0"
    ∷ "call 0 0 80 ab 100 6" prints "0 2 0 0 0"
    ∷ "call 0 0 80 ad 100 6" prints "0 1 0 0 0"
    ∷ "call 0 0 80 a7 100 5" prints "0 0 0 0 0"
    -- "cookie 0 disables"
    ∷ "call 0 0 80 a8 100 6 0" prints "0 0 0 0 0" setting (source 0 1 0 2 1 0 ∷ [])
    ∷ []

-- "raise", under 1.0: the entry's word 0 is the sysino. Each ring has words from before in its first entry.
abbrev pub raises_at_one : List Exchange
raises_at_one =
    -- "Value 1 is the state after": disabled; enabled, and cpu 0, the target at first, has no ring
    "raise 100 6" prints "0 1 0 0 0" setting (source 0 1 0 1 0 0 ∷ [])
    ∷ "call 0 0 80 a2 1 1" prints "0 0 0 0 0" setting (source 0 1 1 1 0 0 ∷ [])
    ∷ "raise 100 6" prints "0 1 0 0 0"
    -- "if enabled .. and its 0x3d ring has room, an entry is written at its tail, which moves on (..; seven zero words) and the
    -- state is delivered"; a new ring delivers nothing by itself
    ∷ "store 0 180 77" prints "0 0 0 0 0" setting (word 0x180 0x77 ∷ [])
    ∷ "call 0 0 80 14 3d 180 2" prints "0 0 0 0 0" setting (ring 0 0 0x3d 0x180 0x80 0 0 ∷ [])
    ∷ "raise 100 6" prints "0 2 0 0 0" setting (ring 0 0 0x3d 0x180 0x80 0 0x40 ∷ source 0 1 1 2 0 0 ∷ word 0x180 1 ∷ [])
    ∷ "head 0 0 3d 40" prints "0 0 0 0 0" setting (ring 0 0 0x3d 0x180 0x80 0x40 0x40 ∷ [])
    -- another target: a 0x3c ring is no 0x3d ring, nor is cpu 0's cpu 1's
    ∷ "call 0 0 80 a4 1 0" prints "0 0 0 0 0" setting (source 0 1 1 0 0 0 ∷ [])
    ∷ "call 0 0 80 a6 1 1" prints "0 0 0 0 0" setting (source 0 1 1 0 1 0 ∷ [])
    ∷ "call 0 1 80 14 3c 100 2" prints "0 0 0 0 0" setting (ring 0 1 0x3c 0x100 0x80 0 0 ∷ [])
    ∷ "raise 100 6" prints "0 1 0 0 0" setting (source 0 1 1 1 1 0 ∷ [])
    -- its own ring, for the target that it has when it is raised
    ∷ "call 0 1 80 14 3d 80 2" prints "0 0 0 0 0" setting (ring 0 1 0x3d 0x80 0x80 0 0 ∷ [])
    ∷ "store 0 80 77" prints "0 0 0 0 0" setting (word 0x80 0x77 ∷ [])
    ∷ "store 0 b8 77" prints "0 0 0 0 0" setting (word 0xb8 0x77 ∷ [])
    ∷ "store 0 c0 7700000000000000" prints "0 0 0 0 0" setting (word 0xc0 0x7700_0000_0000_0000 ∷ [])
    ∷ "raise 100 6"
    prints "0 2 0 0 0"
    setting (ring 0 1 0x3d 0x80 0x80 0 0x40 ∷ source 0 1 1 2 1 0 ∷ word 0x80 1 ∷ word 0xb8 0 ∷ [])
    -- "delivered stays", though there is room again
    ∷ "head 0 1 3d 40" prints "0 0 0 0 0" setting (ring 0 1 0x3d 0x80 0x80 0x40 0x40 ∷ [])
    ∷ "raise 100 6" prints "0 2 0 0 0"
    -- idle again: at the tail, which moves past the end; then the ring is full
    ∷ "call 0 0 80 a4 1 0" prints "0 0 0 0 0" setting (source 0 1 1 0 1 0 ∷ [])
    ∷ "raise 100 6" prints "0 2 0 0 0" setting (ring 0 1 0x3d 0x80 0x80 0x40 0 ∷ source 0 1 1 2 1 0 ∷ word 0xc0 1 ∷ [])
    ∷ "call 0 0 80 a4 1 0" prints "0 0 0 0 0" setting (source 0 1 1 0 1 0 ∷ [])
    ∷ "raise 100 6" prints "0 1 0 0 0" setting (source 0 1 1 1 1 0 ∷ [])
    -- a target whose ring has room delivers nothing by itself
    ∷ "call 0 0 80 a6 1 0" prints "0 0 0 0 0" setting (source 0 1 1 1 0 0 ∷ [])
    ∷ "raise 100 6" prints "0 2 0 0 0" setting (ring 0 0 0x3d 0x180 0x80 0x40 0 ∷ source 0 1 1 2 0 0 ∷ word 0x1c0 1 ∷ [])
    -- guest 1's source is guest 1's, and goes to its own cpu 0: without a ring, and with one
    ∷ "call 1 0 80 a2 0 1" prints "0 0 0 0 0" setting (source 1 0 1 0 0 0 ∷ [])
    ∷ "raise 200 5" prints "0 1 0 0 0" setting (source 1 0 1 1 0 0 ∷ [])
    ∷ "call 1 0 ff 0 1 1 0" prints "0 0 0 0 0" setting (majors 1 0 1 1 0 ∷ [])
    ∷ "call 1 0 80 14 3d 80 2" prints "0 0 0 0 0" setting (ring 1 0 0x3d 0x80 0x80 0 0 ∷ [])
    ∷ "store 1 80 77" prints "0 0 0 0 0" setting (word 0x2080 0x77 ∷ [])
    ∷ "raise 200 5" prints "0 2 0 0 0" setting (ring 1 0 0x3d 0x80 0x80 0 0x40 ∷ source 1 0 1 2 0 0 ∷ word 0x2080 0 ∷ [])
    -- "no such source 104" is a raise of nobody's
    ∷ "raise 200 6" prints "68 0 0 0 0"
    ∷ "raise 201 5" prints "68 0 0 0 0"
    ∷ []

-- the worked image, with groups 1 and 2 of guest 0 at 1.0 and 2.0
abbrev pub worked_at_two : List String
worked_at_two =
    "image 12 221 0000000 0001 0000 0000100 0b 121 0000000 0001 0001 0000200 0b"
    ∷ "call 0 0 ff 0 1 1 0"
    ∷ "call 0 0 ff 0 2 2 0"
    ∷ []

-- "raise", under 2.0 and before group 2 is negotiated. No call chooses a target before the first entry is written.
abbrev pub raises_at_two : List Exchange
raises_at_two =
    "raise 200 5" prints "0 1 0 0 0" setting (source 1 0 0 1 0 0 ∷ [])
    ∷ "call 0 0 80 14 3d 80 2" prints "0 0 0 0 0" setting (ring 0 0 0x3d 0x80 0x80 0 0 ∷ [])
    ∷ "call 0 0 80 a8 100 5 800" prints "0 0 0 0 0" setting (source 0 0 0 0 0 0x800 ∷ [])
    -- received while it is disabled; enabling delivers nothing by itself; then delivered, with the cookie as word 0
    ∷ "raise 100 5" prints "0 1 0 0 0" setting (source 0 0 0 1 0 0x800 ∷ [])
    ∷ "call 0 0 80 ac 100 5 0" prints "0 0 0 0 0" setting (source 0 0 0 0 0 0x800 ∷ [])
    ∷ "raise 100 5" prints "0 1 0 0 0" setting (source 0 0 0 1 0 0x800 ∷ [])
    ∷ "call 0 0 80 aa 100 5 1" prints "0 0 0 0 0" setting (source 0 0 1 1 0 0x800 ∷ [])
    ∷ "raise 100 5" prints "0 2 0 0 0" setting (ring 0 0 0x3d 0x80 0x80 0 0x40 ∷ source 0 0 1 2 0 0x800 ∷ word 0x80 0x800 ∷ [])
    ∷ "load 0 80" prints "0 800 0 0 0"
    ∷ "call 0 0 80 ad 100 5" prints "0 0 0 0 0"
    -- another target, which has no ring; and "no such cpuid ENOCPU" leaves it
    ∷ "head 0 0 3d 40" prints "0 0 0 0 0" setting (ring 0 0 0x3d 0x80 0x80 0x40 0x40 ∷ [])
    ∷ "call 0 0 80 ae 100 5 1" prints "0 0 0 0 0" setting (source 0 0 1 2 1 0x800 ∷ [])
    ∷ "call 0 0 80 ac 100 5 0" prints "0 0 0 0 0" setting (source 0 0 1 0 1 0x800 ∷ [])
    ∷ "raise 100 5" prints "0 1 0 0 0" setting (source 0 0 1 1 1 0x800 ∷ [])
    ∷ "call 0 0 80 ae 100 5 2" prints "1 0 0 0 0"
    ∷ "call 0 0 80 ad 100 5" prints "0 1 0 0 0"
    ∷ []

pub record SourceCases : Type 0 where
  pub by_sysino_lem : Cases 16384 at_one by_sysino
  pub by_name_lem : Cases 16384 at_two by_name
  pub raises_at_one_lem : Cases 16384 at_one raises_at_one
  pub raises_at_two_lem : Cases 16384 worked_at_two raises_at_two

pub source_cases : SourceCases
unfolding computing comparing after heard
source_cases = record { by_sysino_lem = refl; by_name_lem = refl; raises_at_one_lem = refl; raises_at_two_lem = refl }
