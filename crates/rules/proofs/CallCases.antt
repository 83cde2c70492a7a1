-- "Which calls exist": cases of trap and function numbers, of groups that are not negotiated, and of set and get version.
use mathlib.Core.Path.{refl}
use mathlib.Core.List.{List, [], ◌∷◌, ◌++◌}
use Prim.Native.String.{String}
use Rattle.rules.proofs.Computing.{computing}
use Rattle.rules.proofs.Changes.{comparing, majors, source}
use Rattle.rules.proofs.Sessions.{Exchange, ◌prints◌, ◌prints◌setting◌, after, heard, Cases}

-- guests of one cpu, one page and two sources each, of which the second has no cookie support
abbrev pub two_guests : List String
two_guests =
    "image 12 122 0000000 0001 0000 0000100 0b 0000100 0c 122 0000000 0001 0001 0000200 0b 0000200 0c" ∷ []

-- "a group not negotiated": EBADTRAP, whatever the arguments; group 1, ..
abbrev pub core_refused : List Exchange
core_refused =
    "call 0 0 80 14 3c 0 2" prints "7 0 0 0 0"
    ∷ "call 0 0 80 15 3c" prints "7 0 0 0 0"
    ∷ "call 0 0 80 16" prints "7 0 0 0 0"
    ∷ "call 0 0 80 20 0 0" prints "7 0 0 0 0"
    ∷ "call 0 0 80 21 0 0" prints "7 0 0 0 0"
    ∷ "call 0 0 80 31 0 2000" prints "7 0 0 0 0"
    ∷ "call 0 0 80 32 0 2000" prints "7 0 0 0 0"
    ∷ "call 0 0 80 42 0 0 0" prints "7 0 0 0 0"
    ∷ []

-- .. group 2, ..
abbrev pub interrupt_refused : List Exchange
interrupt_refused =
    "call 0 0 80 a0 100 5" prints "7 0 0 0 0"
    ∷ "call 0 0 80 a6 0 0" prints "7 0 0 0 0"
    ∷ "call 0 0 80 a7 100 5" prints "7 0 0 0 0"
    ∷ "call 0 0 80 ae 100 5 0" prints "7 0 0 0 0"
    ∷ []

-- .. and group 0x200
abbrev pub statistics_refused : List Exchange
statistics_refused = "call 0 0 80 102 0" prints "7 0 0 0 0" ∷ "call 0 0 80 103" prints "7 0 0 0 0" ∷ []

-- the same where every other group is negotiated
abbrev pub all_but_core : List String
all_but_core = two_guests ++ ("call 0 0 ff 0 0 1" ∷ "call 0 0 ff 0 2 2" ∷ "call 0 0 ff 0 200 1" ∷ [])

abbrev pub all_but_interrupt : List String
all_but_interrupt = two_guests ++ ("call 0 0 ff 0 0 1" ∷ "call 0 0 ff 0 1 1" ∷ "call 0 0 ff 0 200 1" ∷ [])

abbrev pub all_but_statistics : List String
all_but_statistics = two_guests ++ ("call 0 0 ff 0 0 1" ∷ "call 0 0 ff 0 1 1" ∷ "call 0 0 ff 0 2 2" ∷ [])

abbrev pub version_calls : List Exchange
version_calls =
    -- set version: "group not 0, 1, 2 or 0x200 EINVAL", before the major
    "call 0 0 ff 0 3 1 0" prints "6 0 0 0 0"
    ∷ "call 0 0 ff 0 1ff 1 0" prints "6 0 0 0 0"
    ∷ "call 0 0 ff 0 201 0 0" prints "6 0 0 0 0"
    -- "major not 1 (for group 2: not 1 or 2) ENOTSUPPORTED"
    ∷ "call 0 0 ff 0 0 0 0" prints "d 0 0 0 0"
    ∷ "call 0 0 ff 0 0 2 0" prints "d 0 0 0 0"
    ∷ "call 0 0 ff 0 1 0 0" prints "d 0 0 0 0"
    ∷ "call 0 0 ff 0 1 2 0" prints "d 0 0 0 0"
    ∷ "call 0 0 ff 0 2 0 0" prints "d 0 0 0 0"
    ∷ "call 0 0 ff 0 2 3 0" prints "d 0 0 0 0"
    ∷ "call 0 0 ff 0 200 0 0" prints "d 0 0 0 0"
    ∷ "call 0 0 ff 0 200 2 0" prints "d 0 0 0 0"
    -- get version: "EINVAL if unknown or not negotiated"
    ∷ "call 0 0 ff 3 3" prints "6 0 0 0 0"
    ∷ "call 0 0 ff 3 0" prints "6 0 0 0 0"
    ∷ "call 0 0 ff 3 2" prints "6 0 0 0 0"
    -- "Value 1 is the minor, always 0", whatever minor is asked for; each group is its own
    ∷ "call 0 0 ff 0 0 1 7" prints "0 0 0 0 0" setting (majors 0 1 0 0 0 ∷ [])
    ∷ "call 0 0 ff 0 1 1 0" prints "0 0 0 0 0" setting (majors 0 1 1 0 0 ∷ [])
    ∷ "call 0 0 ff 0 200 1 0" prints "0 0 0 0 0" setting (majors 0 1 1 0 1 ∷ [])
    ∷ "call 0 0 ff 3 2" prints "6 0 0 0 0"
    ∷ "call 0 0 ff 0 2 1 0" prints "0 0 0 0 0" setting (majors 0 1 1 1 1 ∷ [])
    -- "major and minor"; group 1 of guest 1 is not negotiated
    ∷ "call 0 0 ff 3 0" prints "0 1 0 0 0"
    ∷ "call 0 0 ff 3 1" prints "0 1 0 0 0"
    ∷ "call 0 0 ff 3 2" prints "0 1 0 0 0"
    ∷ "call 0 0 ff 3 200" prints "0 1 0 0 0"
    ∷ "call 1 0 ff 3 1" prints "6 0 0 0 0"
    -- "under 1.0 0xa7 to 0xae: EBADTRAP"
    ∷ "call 0 0 80 a7 100 5" prints "7 0 0 0 0"
    ∷ "call 0 0 80 ae 100 5 0" prints "7 0 0 0 0"
    -- "repeating a version changes nothing"; "Going to 2.0 in group 2 disables every source of the guest", and no other's
    ∷ "call 0 0 80 a2 0 1" prints "0 0 0 0 0" setting (source 0 0 1 0 0 0 ∷ [])
    ∷ "call 0 0 80 a2 1 1" prints "0 0 0 0 0" setting (source 0 1 1 0 0 0 ∷ [])
    ∷ "call 1 0 ff 0 2 1 0" prints "0 0 0 0 0" setting (majors 1 0 0 1 0 ∷ [])
    ∷ "call 1 0 80 a2 1 1" prints "0 0 0 0 0" setting (source 1 1 1 0 0 0 ∷ [])
    ∷ "call 0 0 ff 0 2 1 0" prints "0 0 0 0 0"
    ∷ "call 0 0 ff 0 1 1 0" prints "0 0 0 0 0"
    ∷ "call 0 0 ff 0 2 3 0" prints "d 0 0 0 0"
    ∷ "call 0 0 ff 0 2 2 0"
    prints "0 0 0 0 0"
    setting (majors 0 1 1 2 1 ∷ source 0 0 0 0 0 0 ∷ source 0 1 0 0 0 0 ∷ [])
    ∷ "call 0 0 ff 3 2" prints "0 2 0 0 0"
    -- repeating 2.0 disables nothing
    ∷ "call 0 0 80 a8 100 5 800" prints "0 0 0 0 0" setting (source 0 0 0 0 0 0x800 ∷ [])
    ∷ "call 0 0 80 aa 100 5 1" prints "0 0 0 0 0" setting (source 0 0 1 0 0 0x800 ∷ [])
    ∷ "call 0 0 ff 0 2 2 0" prints "0 0 0 0 0"
    -- "2 back to 1 ENOTSUPPORTED"
    ∷ "call 0 0 ff 0 2 1 0" prints "d 0 0 0 0"
    ∷ "call 0 0 ff 3 2" prints "0 2 0 0 0"
    -- "Under 2.0, 0xa0 to 0xa6: ENOTSUPPORTED"
    ∷ "call 0 0 80 a0 100 5" prints "d 0 0 0 0"
    ∷ "call 0 0 80 a6 0 0" prints "d 0 0 0 0"
    -- "Another trap or function": EBADTRAP, the numbers beside those that exist
    ∷ "call 0 0 ff 1" prints "7 0 0 0 0"
    ∷ "call 0 0 ff 2" prints "7 0 0 0 0"
    ∷ "call 0 0 ff 4" prints "7 0 0 0 0"
    ∷ "call 0 0 fe 0 1 1 0" prints "7 0 0 0 0"
    ∷ "call 0 0 100 0 1 1 0" prints "7 0 0 0 0"
    ∷ "call 0 0 7f 16" prints "7 0 0 0 0"
    ∷ "call 0 0 81 16" prints "7 0 0 0 0"
    ∷ "call 0 0 80 0 1 1 0" prints "7 0 0 0 0"
    ∷ "call 0 0 80 13 3c" prints "7 0 0 0 0"
    ∷ "call 0 0 80 17 3c" prints "7 0 0 0 0"
    ∷ "call 0 0 80 1f" prints "7 0 0 0 0"
    ∷ "call 0 0 80 22" prints "7 0 0 0 0"
    ∷ "call 0 0 80 30 0 2000" prints "7 0 0 0 0"
    ∷ "call 0 0 80 33 0 2000" prints "7 0 0 0 0"
    ∷ "call 0 0 80 41" prints "7 0 0 0 0"
    ∷ "call 0 0 80 43" prints "7 0 0 0 0"
    ∷ "call 0 0 80 9f 100 5" prints "7 0 0 0 0"
    ∷ "call 0 0 80 af 100 5" prints "7 0 0 0 0"
    ∷ "call 0 0 80 101" prints "7 0 0 0 0"
    ∷ "call 0 0 80 104" prints "7 0 0 0 0"
    ∷ []

pub record CallCases : Type 0 where
  pub none_negotiated : Cases 16384 two_guests (core_refused ++ interrupt_refused ++ statistics_refused)
  pub without_core : Cases 16384 all_but_core core_refused
  pub without_interrupt : Cases 16384 all_but_interrupt interrupt_refused
  pub without_statistics : Cases 16384 all_but_statistics statistics_refused
  pub version_calls_lem : Cases 16384 two_guests version_calls

pub call_cases : CallCases
unfolding computing comparing after heard
call_cases = record {
  none_negotiated = refl;
  without_core = refl;
  without_interrupt = refl;
  without_statistics = refl;
  version_calls_lem = refl;
}
