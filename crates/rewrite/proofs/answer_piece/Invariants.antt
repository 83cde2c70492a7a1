-- `answer_piece` is safe: what is held fits the line, and the answers fit the buffer.
use Rattle.std.proofs.Common.{length, ◌≡◌, ◌≤◌}
use Rattle.rewrite.proofs.answer_piece.Given as goal

abbrev pub invariant-loop-b : goal.invariant-loop-b
invariant-loop-b g l = (l.held ≤ length l.line) × (l.at ≤ length l.out) × (length l.out ≡ length l.initial.out)
