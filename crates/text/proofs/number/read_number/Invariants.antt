-- `number::read_number` meets its contract. The invariant: v is the number of the digits so far, and makes with those behind them the text's.
use mathlib.Core.Path.{◌≡◌}
use Prim.Native.Nat.{◌^◌, ◌<◌}
use lib.ListN.{drop}
use Rattle.rules.specs.Text.{digits, numbered}
use Rattle.text.proofs.NumberLaws.{valued}
use Rattle.text.proofs.number.read_number.Given as goal

abbrev pub invariant-loop-b : goal.invariant-loop-b
invariant-loop-b l = (l.v < 16 ^ l.b-index) × (valued l.v (digits (drop l.b-index l.text)) ≡ numbered (digits l.text))
