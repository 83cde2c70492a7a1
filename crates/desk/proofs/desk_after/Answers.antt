-- `desk_after` meets its contract. The invariant: the lines from `from` on, done from this desk, come to what all lines come to.
use Rattle.desk.proofs.EndLaws.{end_within, lines_start, lines_next, lines_last, lines_over}
use native.Mathlib.Omega.{arith}
use Rattle.desk.proofs.desk_after.Goals as goal

pub loop-from-init : goal.loop-from-init
loop-from-init c = (omega arith, search lines_start, omega arith)

pub slice_bounds-step-end : goal.slice_bounds-step-end
slice_bounds-step-end c = end_within _ _ _ (omega arith) c.line_end-end.ensures

pub loop-from-preserved-then-end-input : goal.loop-from-preserved-then-end-input
loop-from-preserved-then-end-input c = (omega arith, search lines_next, omega arith)

pub loop-from-preserved : goal.loop-from-preserved
loop-from-preserved c = (search end_within, search lines_last, omega arith)

pub returns : goal.returns
returns c = search lines_over
