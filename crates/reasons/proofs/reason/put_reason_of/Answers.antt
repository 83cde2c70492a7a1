-- `reason::put_reason_of` meets its contract: the first piece, and the reason by it.
use Rattle.text.proofs.PieceLaws.{end_within}
use lib.Seq.{length-take-le}
use mathlib.Core.Path.{sym}
use native.Mathlib.Omega.{arith}
use Rattle.reasons.proofs.reason.put_reason_of.Goals as goal

pub slice_bounds-put_reason_by-end : goal.slice_bounds-put_reason_by-end
slice_bounds-put_reason_by-end c = sym (length-take-le _ _ (end_within _ _ _ (omega arith) c.piece_end-end.ensures))
