-- `piece::piece_end` meets its contract. The invariant: what is left of the piece from i on ends where the piece does.
use mathlib.Core.Path.{◌≡◌}
use Prim.Native.Nat.{◌+◌, ◌≤◌}
use lib.ListN.{length, drop}
use Rattle.text.specs.Pieces.{first_length}
use Rattle.text.proofs.piece.piece_end.Given as goal

abbrev pub invariant-loop-i : goal.invariant-loop-i
invariant-loop-i l = (l.i ≤ length l.s) × (l.i + first_length (drop l.i l.s) ≡ l.at + first_length (drop l.at l.s))
