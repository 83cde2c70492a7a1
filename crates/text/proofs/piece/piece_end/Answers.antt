-- `piece::piece_end` meets its contract: each return is a law of the loop.
use Rattle.text.proofs.PieceLaws.{end_found, end_next, end_last}
use native.Mathlib.Omega.{arith}
use Rattle.text.proofs.piece.piece_end.Goals as goal

pub returns-then-s-i-eq32 : goal.returns-then-s-i-eq32
returns-then-s-i-eq32 c = search end_found

pub loop-i-preserved : goal.loop-i-preserved
loop-i-preserved c = (omega arith, search end_next)

pub returns : goal.returns
returns c = omega (arith, c.loop-i.invariant.0, end_last _ _ _ c.loop-i.invariant.1 (omega arith))
