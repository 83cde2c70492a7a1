-- The last answer fits its room, so that it can be lent.
use Rattle.session.proofs.Fits.{written_fits, written_taken}
use Rattle.console.proofs.plain.PlainStyle.answer_end.Goals as goal

pub slice_bounds-write_text-end : goal.slice_bounds-write_text-end
slice_bounds-write_text-end g c = written_fits _ _ _ _ _ _ _ _ c.finish-fed.ensures

pub slice_bounds-write_text-end-2 : goal.slice_bounds-write_text-end-2
slice_bounds-write_text-end-2 g c = written_taken _ _ _ _ _ _ _ _ c.finish-fed.ensures
