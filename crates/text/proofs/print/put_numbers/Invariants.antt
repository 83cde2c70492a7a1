-- `print::put_numbers` meets its contract. The invariant: the numbers so far stand there, each with a space behind it.
use mathlib.Core.Path.{◌≡◌}
use Prim.Native.Nat.{◌+◌}
use lib.ListN.{length}
use lib.Seq.{sets}
use Rattle.text.proofs.PrintLaws.{trailed}
use Rattle.text.proofs.print.put_numbers.Given as goal

abbrev pub invariant-loop-n : goal.invariant-loop-n
invariant-loop-n l = (l.at ≡ l.from + length (trailed l.n-items l.n-index)) × (l.out ≡ sets l.initial.out l.from (trailed l.n-items l.n-index))
