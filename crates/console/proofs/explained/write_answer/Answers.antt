-- A reason has room, so that what was put of it can be lent.
use Rattle.reasons.proofs.Short.{reason_fits, reason_taken}
use Rattle.std.proofs.Common.{refl}
use Rattle.console.proofs.explained.write_answer.Goals as goal

pub slice_bounds-reason-end : goal.slice_bounds-reason-end
slice_bounds-reason-end g c = reason_fits _ _ _ _ _ c.put_reason-n.ensures refl

pub slice_bounds-write_text-end-3 : goal.slice_bounds-write_text-end-3
slice_bounds-write_text-end-3 g c = reason_taken _ _ _ _ _ c.put_reason-n.ensures refl
