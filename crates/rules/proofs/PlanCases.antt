-- The program `plan` (request No. 2): what it prints for plans, images and lines that are neither.
use mathlib.Core.Path.{◌≡◌, refl}
use mathlib.Core.List.{List, [], ◌∷◌}
use Prim.Native.String.{String}
use Prim.Native.String as string
use lib.ListN.{replicate}
use Rattle.std.specs.Prelude.{None}
use Rattle.rules.specs.Text.{pieces}
use Rattle.rules.specs.Plan.{planned, plan_line, addition_in}
use Rattle.rules.proofs.Computing.{computing}
use Rattle.rules.proofs.TextCases.{Run, run}

unfoldable pub planned_runs : List Run → List Run
planned_runs [] = []
planned_runs (r ∷ rs) = record { input = r.input; printed = planned r.input } ∷ planned_runs rs

-- a plan and its image
abbrev pub worked_plan : String
worked_plan = "guest 2\nextent 0 1 0\nsource 100 5 1\nguest 1\nextent 0 1 1\nsource 200 5 1\n"

abbrev pub worked_line : String
worked_line = "image 1222100000000001000000001000b12100000000001000100002000b\n"

-- a guest with an extent: nothing wrong with it
abbrev pub start : String
start = "guest 1\nextent 0 1 0\n"

-- seven extents, and sixteen sources
abbrev pub seven : String
seven = "guest 1\nextent 0 1 6\nextent 2 1 5\nextent 4 1 4\nextent 6 1 3\nextent 8 1 2\nextent a 1 1\nextent c 1 0\n"

abbrev pub sixteen : String
sixteen =
    string.◌++◌ start
    "source 0 0 0\nsource 0 1 0\nsource 0 2 0\nsource 0 3 0\nsource 0 4 0\nsource 0 5 0\nsource 0 6 0\nsource 0 7 0\nsource 1 0 0\nsource 1 1 0\nsource 1 2 0\nsource 1 3 0\nsource 1 4 0\nsource 1 5 0\nsource 1 6 0\nsource 1 7 0\n"

abbrev pub last_ones : String
last_ones = "guest 8\nextent 1 2 3\nextent 3 1 1\nsource fffffff 7f 1\nsource 1 40 0\nguest 1\nextent fffffff 1 ffff\n"

abbrev pub runs : List Run
runs =
    -- "it prints the other form", and "which as input prints the six lines again"; the last line feed may be missing
    run worked_plan worked_line
    ∷ run worked_line worked_plan
    ∷ run "guest 1\nextent 0 1 0" "image 11120000000000010000\n"
    ∷ run "image 11 120 0000000 0001 0000" "guest 1\nextent 0 1 0\n"
    -- digits of either case; sources among extents, which are printed behind them
    ∷ run "guest 1\nsource ABC 7F 0\nextent a 1 B\n" "image 11121000000a0001000b0000abcfe0\n"
    ∷ run "image 11121000000a0001000b0000abcfe0\n" "guest 1\nextent a 1 b\nsource abc 7f 0\n"
    -- the last numbers that the fields hold
    ∷ run last_ones "image 12842000000100020003000000300010001fffffffff000000180120fffffff0001ffff0\n"
    -- "A plan whose tables break a rule prints 65": cpus 0 and 9, no extent, an extent of no page, 2^28, a devino of 8 bits, two pages shared,
    -- extents that descend, a source named twice
    ∷ run "guest 0\nextent 0 1 0\n" "65\n"
    ∷ run "guest 9\nextent 0 1 0\n" "65\n"
    ∷ run "guest 1\n" "65\n"
    ∷ run "guest 1\nextent 0 0 0\n" "65\n"
    ∷ run "guest 1\nextent 10000000 1 0\n" "65\n"
    ∷ run (string.◌++◌ start "source 10000000 5 1\n") "65\n"
    ∷ run (string.◌++◌ start "source 100 80 1\n") "65\n"
    ∷ run (string.◌++◌ start "extent 1 1 0\n") "65\n"
    ∷ run "guest 1\nextent 1 1 0\nextent 0 1 1\n" "65\n"
    ∷ run (string.◌++◌ start "source 100 5 1\nsource 100 5 0\n") "65\n"
    -- "an empty one 69"
    ∷ run "" "69\n"
    -- "an image line that is refused prints what loading answers"
    ∷ run "image\n" "6e 0 0\n"
    ∷ run "image 11 120 0000000 0000 0000\n" "70 0 0\n"
    ∷ run "image 12 121 0000000 0001 0000 0000100 0b 122 0000000 0001 0001 0000200 0b 0000100 0b 0" "73 1 1\n"
    -- "a line that is no such line .. prints bad and its number": no line, another word, too few numbers and too many, no number, a space
    -- too many, an event; the first of two, and the number in hex
    ∷ run "\n" "bad 1\n"
    ∷ run "plant 1\n" "bad 1\n"
    ∷ run "Guest 1\n" "bad 1\n"
    ∷ run "guest\n" "bad 1\n"
    ∷ run "guest 1 1\n" "bad 1\n"
    ∷ run "guest x\n" "bad 1\n"
    ∷ run "guest  1\n" "bad 1\n"
    ∷ run "guest 1 \n" "bad 1\n"
    ∷ run "load 0 0\n" "bad 1\n"
    ∷ run "guest 1\nextent 0 1\n" "bad 2\n"
    ∷ run "guest 1\nextent 0 1 0 0\n" "bad 2\n"
    ∷ run (string.◌++◌ start "source 100 5\n") "bad 3\n"
    ∷ run (string.◌++◌ start "source 100 5 1 1\n") "bad 3\n"
    ∷ run (string.◌++◌ start "x\ny\n") "bad 3\n"
    ∷ run (string.◌++◌ start "\nguest 9") "bad 3\n"
    ∷ run (string.◌++◌ sixteen "x\n") "bad 13\n"
    -- "or that tables cannot hold": an extent and a source before the first guest, a fifth guest, an eighth extent, a seventeenth source
    ∷ run "extent 0 1 0\n" "bad 1\n"
    ∷ run "source 100 5 1\n" "bad 1\n"
    ∷ run "guest 1\nguest 1\nguest 1\nguest 1\nguest 1\n" "bad 5\n"
    ∷ run seven "image 111e0000000000010006000000200010005000000400010004000000600010003000000800010002000000a00010001000000c00010000\n"
    ∷ run (string.◌++◌ seven "extent e 1 7\n") "bad 9\n"
    ∷ run (string.◌++◌ sixteen "source 2 0 0\n") "bad 13\n"
    -- numbers one past what tables hold
    ∷ run "guest 100\n" "bad 1\n"
    ∷ run "guest 1\nextent 100000000 1 0\n" "bad 2\n"
    ∷ run "guest 1\nextent 0 10000 0\n" "bad 2\n"
    ∷ run "guest 1\nextent 0 1 10000\n" "bad 2\n"
    ∷ run (string.◌++◌ start "source 100000000 5 1\n") "bad 3\n"
    ∷ run (string.◌++◌ start "source 100 100 1\n") "bad 3\n"
    ∷ run (string.◌++◌ start "source 100 5 2\n") "bad 3\n"
    -- and the last that they hold
    ∷ run "guest ff\nextent ffffffff ffff ffff\nsource ffffffff ff 1\n" "65\n"
    -- one image line, and alone: with odd digits, behind a plan's line, with a line behind it
    ∷ run "image 1\n" "bad 1\n"
    ∷ run "guest 1\nimage 11 120 0000000 0001 0000\n" "bad 2\n"
    ∷ run "image 11 120 0000000 0001 0000\nguest 1\n" "bad 2\n"
    ∷ run "image 11 120 0000000 0001 0000\n\nx\n" "bad 2\n"
    ∷ run "image\nimage\n" "bad 2\n"
    ∷ []

pub record PlanCases : Type 0 where
  pub all_planned : planned_runs runs ≡ runs

pub plan_cases : PlanCases
unfolding computing planned_runs
plan_cases = record { all_planned = refl }

-- "as in a session": a line of 2,048 bytes is read by its pieces, whatever they are, and one of 2,049 is bad
pub longest_plan_line : plan_line (replicate 2048 0x20) ≡ addition_in (pieces [] (replicate 2048 0x20))
unfolding plan_line
longest_plan_line = refl

pub longer_plan_line : plan_line (replicate 2049 0x20) ≡ None
unfolding plan_line
longer_plan_line = refl
