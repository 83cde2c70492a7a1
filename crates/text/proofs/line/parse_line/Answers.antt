-- `line::parse_line` meets its contract: the first word ends within the line.
use Rattle.std.proofs.Common.{sym, arith, length-take-le}
use Rattle.text.proofs.PieceLaws.{end_within}
use Rattle.text.proofs.line.parse_line.Goals as goal

pub slice_bounds-word-end : goal.slice_bounds-word-end
slice_bounds-word-end c = sym (length-take-le _ _ (end_within _ _ _ (omega arith) c.piece_end-end.ensures))

pub image_line-requires : goal.image_line-requires
image_line-requires c = (end_within _ _ _ (omega arith) c.piece_end-end.ensures, omega arith)

pub event_line-requires : goal.event_line-requires
event_line-requires c = end_within _ _ _ (omega arith) c.piece_end-end.ensures
