-- The bytes that are counted were written, and no others.
use Rattle.std.proofs.Common.{◌≤◌, length, take}
use Rattle.std.specs.Io.KnownBytes.{Appends}
use Rattle.stream.proofs.write_all.Given as goal

abbrev pub invariant-loop : goal.invariant-loop
invariant-loop g l =
    (l.done ≤ length l.bytes) × Appends (g.W.Write.contents l.fn.streams.output) (g.W.Write.contents l.streams.output) (take l.done l.bytes)
