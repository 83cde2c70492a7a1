-- The paper's session as text: what the program prints for it.
use mathlib.Core.Path.{◌≡◌, refl}
use Prim.Native.String.{String, ◌++◌}
use Rattle.rules.specs.Text.{bytes_of}
use Rattle.rules.specs.Session.{output}
use Rattle.rules.proofs.Computing.{computing}

abbrev pub worked_input : String
worked_input =
    "image 12 221 0000000 0001 0000 0000100 0b 121 0000000 0001 0001 0000200 0b\n"
    ++ "call 0 0 ff 0 1 1 0\n"
    ++ "call 0 0 ff 0 2 2 0\n"
    ++ "call 0 0 80 14 3d 80 2\n"
    ++ "call 0 0 80 a8 200 5 800\n"
    ++ "call 0 0 80 a8 100 5 800\n"
    ++ "call 0 0 80 ae 100 5 0\n"
    ++ "call 0 0 80 aa 100 5 1\n"
    ++ "raise 100 5\n"
    ++ "load 0 80\n"
    ++ "call 0 0 80 15 3d\n"

abbrev pub worked_output : String
worked_output =
    "0 0 0\n"
    ++ "0 0 0 0 0\n"
    ++ "0 0 0 0 0\n"
    ++ "0 0 0 0 0\n"
    ++ "6 0 0 0 0\n"
    ++ "0 0 0 0 0\n"
    ++ "0 0 0 0 0\n"
    ++ "0 0 0 0 0\n"
    ++ "0 2 0 0 0\n"
    ++ "0 800 0 0 0\n"
    ++ "0 80 2 0 0\n"

pub worked_session_prints : output (bytes_of worked_input) ≡ bytes_of worked_output
unfolding computing
worked_session_prints = refl
