-- One byte is fed whole, and its answer fits its room.
use Rattle.session.proofs.Fits.{written_fits, written_taken}
use Rattle.session.proofs.InParts.{end_fed}
use Rattle.std.proofs.Common.{rules}
use Rattle.console.proofs.explained.explain_line.Goals as goal

pub slice_bounds-write_answer-end : goal.slice_bounds-write_answer-end
slice_bounds-write_answer-end g c = written_fits _ _ _ _ _ _ _ _ c.feed-fed.ensures

pub slice_bounds-write_answer-end-2 : goal.slice_bounds-write_answer-end-2
slice_bounds-write_answer-end-2 g c = written_taken _ _ _ _ _ _ _ _ c.feed-fed.ensures

pub returns : goal.returns
returns g c = end_fed _ _ _ _ _ _ (search rules) c.feed-fed.ensures
