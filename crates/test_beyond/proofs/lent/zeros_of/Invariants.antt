-- No more bytes are counted than were looked at.
use Rattle.std.proofs.Common.{◌≤◌}
use Rattle.test_beyond.proofs.lent.zeros_of.Given as goal

abbrev pub invariant-loop-at : goal.invariant-loop-at
invariant-loop-at l = (l.z.count ≤ l.at) × (l.z.others ≤ l.at)
