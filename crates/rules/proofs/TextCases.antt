-- "The session program": lines that are bad, lines that are read, and whole inputs.
use mathlib.Core.Path.{◌≡◌, refl}
use mathlib.Core.List.{List, [], ◌∷◌}
use Prim.Native.Nat.{ℕ}
use Prim.Native.String.{String}
use lib.ListN.{replicate, length}
use Rattle.rules.specs.Types.{Call, TsbHit, Event}
use Rattle.rules.specs.Text.{bad, event, pieces, line_of, parse}
use Rattle.rules.specs.Session.{begin, output}
use Rattle.rules.proofs.Computing.{computing}
use Rattle.rules.specs.Text.{bytes_of}
use Rattle.rules.proofs.Changes.{comparing, majors, word}
use Rattle.rules.proofs.Sessions.{Exchange, ◌prints◌, ◌prints◌setting◌, after, heard, Cases}

abbrev pub one_page : List String
one_page = "image 11 120 0000000 0001 0000" ∷ "call 0 0 ff 0 1 1 0" ∷ []

-- "A line prints bad, and does nothing"
abbrev pub bad_lines : List Exchange
bad_lines =
    -- "has another first word"
    "" prints "bad"
    ∷ " " prints "bad"
    ∷ "Load 0 0" prints "bad"
    ∷ "loads 0 0" prints "bad"
    ∷ "loa 0 0" prints "bad"
    ∷ "hits 0 0 0 0 0 0" prints "bad"
    ∷ "image11 120 0000000 0001 0000" prints "bad"
    -- "too few or too many fields"
    ∷ "call 0 0 ff" prints "bad"
    ∷ "call 0 0 ff 0 1 1 0 0 0 0" prints "bad"
    ∷ "head 0 0 3c" prints "bad"
    ∷ "head 0 0 3c 0 0" prints "bad"
    ∷ "raise 100" prints "bad"
    ∷ "raise 100 5 0" prints "bad"
    ∷ "load 0" prints "bad"
    ∷ "load 0 0 0" prints "bad"
    ∷ "store 0 0" prints "bad"
    ∷ "store 0 0 1 0" prints "bad"
    ∷ "hit 0 0 0 0 0" prints "bad"
    ∷ "hit 0 0 0 0 0 0 0" prints "bad"
    -- "parted by one space"
    ∷ " load 0 0" prints "bad"
    ∷ "load  0 0" prints "bad"
    ∷ "load 0 0 " prints "bad"
    ∷ "load 0 " prints "bad"
    ∷ "load  0" prints "bad"
    ∷ "load 0\t0" prints "bad"
    -- "a field that is no such number": the bytes beside the digits; 17 digits
    ∷ "load 0 /" prints "bad"
    ∷ "load 0 :" prints "bad"
    ∷ "load 0 @" prints "bad"
    ∷ "load 0 G" prints "bad"
    ∷ "load 0 `" prints "bad"
    ∷ "load 0 g" prints "bad"
    ∷ "load 0 0x8" prints "bad"
    ∷ "load 0 -8" prints "bad"
    ∷ "load 0 00000000000000000" prints "bad"
    -- "an odd number of image digits"; a byte that is no digit
    ∷ "image 1" prints "bad"
    ∷ "image 11 120 0000000 0001 000" prints "bad"
    ∷ "image 1g" prints "bad"
    ∷ []

abbrev pub good_lines : List Exchange
good_lines =
    -- "hex of either case, 1 to 16 digits"; "all lower-case hex, no leading zeros"
    "store 0 0000000000000008 0aBcDeFAbCdEf19" prints "0 0 0 0 0" setting (word 8 0x00ab_cdef_abcd_ef19 ∷ [])
    ∷ "load 00 8" prints "0 abcdefabcdef19 0 0 0"
    ∷ "store 0 8 ffffffffffffffff" prints "0 0 0 0 0" setting (word 8 0xffff_ffff_ffff_ffff ∷ [])
    ∷ "load 0 8" prints "0 ffffffffffffffff 0 0 0"
    ∷ "store 0 8 10" prints "0 0 0 0 0" setting (word 8 0x10 ∷ [])
    ∷ "load 0 8" prints "0 10 0 0 0"
    -- "Only the five arguments of a call may be missing, and are then 0"; what a function does not take is not looked at
    ∷ "call 0 0 80 32 0 2000" prints "0 2000 0 0 0"
    ∷ "call 0 0 80 32 0" prints "6 0 0 0 0"
    ∷ "call 0 0 80 16" prints "0 0 0 0 0"
    ∷ "call 0 0 80 16 1 2 3 4 5" prints "0 0 0 0 0"
    -- "in the order given under the events"
    ∷ "call 0 1 80 16" prints "67 0 0 0 0"
    ∷ "call 1 0 80 16" prints "67 0 0 0 0"
    -- "The image is any number of hex digits, none included, its spaces skipped"
    ∷ "image  1 1 1 2000 00000 000 1 00 00 " prints "0 0 0" setting (majors 0 0 0 0 0 ∷ [])
    ∷ []

-- a whole input and what is printed for it
pub record Run : Type 0 where
  pub input : List ℕ
  pub printed : List ℕ

abbrev pub run : String → String → Run
run input printed = record { input = bytes_of input; printed = bytes_of printed }

abbrev pub runs : List Run
runs =
    -- "each ended by a line feed or, unless empty, by the end": "one line for each, no header"
    run "" ""
    ∷ run "\n" "bad\n"
    ∷ run "image" "6e 0 0\n"
    ∷ run "image\n" "6e 0 0\n"
    ∷ run "image\n\nx\nimage 10" "6e 0 0\nbad\nbad\n6f 0 0\n"
    -- for an image "a status and two values", else "the status and four values"; "starts with no guest and 32 KiB of zeroed memory"
    ∷ run "load 0 0\n" "67 0 0 0 0\n"
    ∷ run "image 11 120 0000000 0001 0003\nload 0 1ff8\n" "0 0 0\n0 0 0 0 0\n"
    ∷ run "image 11 120 0000000 0001 0004\nload 0 0\n" "0 0 0\n66 0 0 0 0\n"
    ∷ []

unfoldable pub outputs : List Run → List Run
outputs [] = []
outputs (r ∷ rs) = record { input = r.input; printed = output r.input } ∷ outputs rs

-- "call (guest, cpuid, trap, function, five arguments)"
abbrev pub call_one_to_nine : Call
call_one_to_nine = record { guest = 1; cpu = 2; trap = 3; function = 4; arg0 = 5; arg1 = 6; arg2 = 7; arg3 = 8; arg4 = 9 }

-- "Only the five arguments of a call may be missing, and are then 0."
abbrev pub call_one_to_four : Call
call_one_to_four = record { guest = 1; cpu = 2; trap = 3; function = 4; arg0 = 0; arg1 = 0; arg2 = 0; arg3 = 0; arg4 = 0 }

-- hit (guest, cpuid, side, context mark, page index, ticks)
abbrev pub hit_one_to_six : TsbHit
hit_one_to_six = record { guest = 1; cpu = 2; side = 3; context = 4; index = 5; ticks = 6 }

pub record TextCases : Type 0 where
  pub bad_lines_lem : Cases 8192 one_page bad_lines
  pub good_lines_lem : Cases 8192 one_page good_lines
  pub whole_inputs : outputs runs ≡ runs
  pub memory_size : length begin.memory ≡ 32768
  pub call_fields : parse (bytes_of "call 1 2 3 4 5 6 7 8 9") ≡ event (Event.Call call_one_to_nine)
  pub call_missing : parse (bytes_of "call 1 2 3 4") ≡ event (Event.Call call_one_to_four)
  pub hit_fields : parse (bytes_of "hit 1 2 3 4 5 6") ≡ event (Event.Hit hit_one_to_six)

pub text_cases : TextCases
unfolding computing comparing after heard outputs
text_cases = record { bad_lines_lem = refl; good_lines_lem = refl; whole_inputs = refl; memory_size = refl; call_fields = refl; call_missing = refl; hit_fields = refl }

-- "lines of at most 2,048 bytes": a line of 2,048 is read by its pieces, whatever they are, and one of 2,049 is bad
pub longest_line : parse (replicate 2048 0x20) ≡ line_of (pieces [] (replicate 2048 0x20))
unfolding parse
longest_line = refl

pub too_long : parse (replicate 2049 0x20) ≡ bad
unfolding parse
too_long = refl
