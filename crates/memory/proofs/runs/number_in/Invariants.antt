-- `number_in` meets its contract. The invariant: v is the number that the bytes before this one make, and fits these.
use Rattle.std.proofs.Common.{◌≡◌, ◌<◌, ◌^◌}
use Rattle.rules.specs.Real.{number_of}
use Rattle.memory.specs.Cells.{cell}
use Rattle.memory.proofs.runs.number_in.Given as goal

abbrev pub invariant-loop-b : goal.invariant-loop-b
invariant-loop-b l = (l.v ≡ number_of (cell l.bytes) 0 l.b-index) × (l.v < 256 ^ l.b-index)
