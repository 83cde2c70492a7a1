-- What is left of the piece comes, from where the session stands, to what the whole comes to.
use Rattle.std.proofs.Common.{length, drop, ◌-◌, ◌≡◌, ◌≤◌}
use Rattle.session.specs.Feeding.{unprinted, fed, taken_up}
use Rattle.console.proofs.plain.PlainStyle.answer_piece.Given as goal

abbrev pub invariant-loop-from : goal.invariant-loop-from
invariant-loop-from g l =
    (l.from ≤ length l.piece) × (length l.out ≡ length l.fn.out)
    × (unprinted (fed (taken_up l.left l.mem) (drop l.from l.piece)) ≡ unprinted (fed (taken_up l.fn.feeder l.fn.mem) l.piece))

abbrev pub decreases-loop-from : goal.decreases-loop-from
decreases-loop-from g l = length l.piece - l.from
