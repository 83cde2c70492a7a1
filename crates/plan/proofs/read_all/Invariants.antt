-- `read_all` tells no more bytes than the buffer has.
use Rattle.std.proofs.Common.{◌≡◌, ◌≤◌, length}
use Rattle.plan.proofs.read_all.Given as goal

abbrev pub invariant-loop : goal.invariant-loop
invariant-loop g l = (length l.buf ≡ length l.initial.buf) × (l.done ≤ length l.buf)
