-- What is left of the piece comes, from where the session stands, to what the whole comes to.
use Rattle.std.proofs.Common.{length, ◌≡◌, ◌≤◌}
use Rattle.session.specs.Feeding.{unprinted, fed, taken_up}
use Rattle.console.proofs.explained.explain_piece.Given as goal

abbrev pub invariant-loop-n : goal.invariant-loop-n
invariant-loop-n g l =
    (length l.rest ≤ length l.piece) × (length l.out ≡ length l.fn.out)
    × (unprinted (fed (taken_up l.left l.mem) l.rest) ≡ unprinted (fed (taken_up l.fn.feeder l.fn.mem) l.piece))

abbrev pub decreases-loop-n : goal.decreases-loop-n
decreases-loop-n g l = length l.rest
