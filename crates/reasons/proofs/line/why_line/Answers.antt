-- `line::why_line` meets its contract: an image, another word, or an event.
use mathlib.Core.Path.{sym}
use lib.Seq.{length-take-le}
use Rattle.text.proofs.PieceLaws.{end_within}
use Rattle.reasons.proofs.LineLaws.{line_image, line_other, line_event}
use native.Mathlib.Omega.{arith}
use Rattle.reasons.proofs.line.why_line.Goals as goal

pub slice_bounds-same_text-end : goal.slice_bounds-same_text-end
slice_bounds-same_text-end c = sym (length-take-le _ _ (end_within _ _ _ (omega arith) c.piece_end-end.ensures))

pub why_image-requires : goal.why_image-requires
why_image-requires c = end_within _ _ _ (omega arith) c.piece_end-end.ensures

pub returns-then-same_text : goal.returns-then-same_text
returns-then-same_text c = search line_image

pub slice_bounds-word_of-end : goal.slice_bounds-word_of-end
slice_bounds-word_of-end c = sym (length-take-le _ _ (end_within _ _ _ (omega arith) c.piece_end-end.ensures))

pub returns-in-None : goal.returns-in-None
returns-in-None c = line_other _ _ c.piece_end-end.ensures _ c.same_text.ensures c.if-same_text.false c.in-None.ensures

pub why_fields-requires : goal.why_fields-requires
why_fields-requires c = end_within _ _ _ (omega arith) c.piece_end-end.ensures

pub returns-in-Some : goal.returns-in-Some
returns-in-Some c = line_event _ _ c.piece_end-end.ensures _ c.same_text.ensures c.if-same_text.false _ c.in-Some.ensures _ c.why_fields.ensures
