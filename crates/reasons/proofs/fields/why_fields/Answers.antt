-- `fields::why_fields` meets its contract. The invariant: the fields behind `at`, after count others, have the fault of all fields.
use Rattle.std.proofs.Common.{arith}
use Rattle.text.proofs.PieceLaws.{end_within}
use Rattle.reasons.proofs.FieldLaws.{fields_bad, fields_next, fields_end}
use Rattle.reasons.proofs.fields.why_fields.Goals as goal

pub slice_bounds-why_field-end : goal.slice_bounds-why_field-end
slice_bounds-why_field-end c = end_within _ _ _ (omega arith) c.piece_end-next.ensures

pub returns-in-Some : goal.returns-in-Some
returns-in-Some c = fields_bad _ _ _ _ _ c.loop-at.invariant.2 c.loop-at-test.true _ c.piece_end-next.ensures _ c.in-Some.ensures

pub loop-at-preserved : goal.loop-at-preserved
loop-at-preserved c =
    let l = c.loop-at in
    (omega arith, end_within _ _ _ (omega arith) c.piece_end-next.ensures, fields_next _ _ _ _ _ l.invariant.2 c.loop-at-test.true _ c.piece_end-next.ensures c.in_default.ensures)

pub returns : goal.returns
returns c = fields_end _ _ _ _ _ c.loop-at.invariant.2 c.loop-at-test.false _ c.why_count.ensures
