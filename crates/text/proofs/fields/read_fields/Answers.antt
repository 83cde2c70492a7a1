-- `fields::read_fields` meets its contract. The invariant: the fields up to `at` are read, and with those behind it are the line's.
use Rattle.std.proofs.Common.{◌∙◌, arith}
use Rattle.text.proofs.PieceLaws.{end_within}
use Rattle.text.proofs.GatherLaws.{gather_full, gather_bad, gather_next, gather_end}
use Rattle.text.proofs.fields.read_fields.Goals as goal

pub returns-then-count-eq-FIELDS : goal.returns-then-count-eq-FIELDS
returns-then-count-eq-FIELDS c = search gather_full

pub slice_bounds-read_number-end : goal.slice_bounds-read_number-end
slice_bounds-read_number-end c = end_within _ _ _ (omega arith) c.piece_end-next.ensures

pub returns-in_err-list : goal.returns-in_err-list
returns-in_err-list c =
    let l = c.loop-at in
    c.from_residual.ensures ∙ gather_bad _ _ _ _ _ l.invariant.2 c.loop-at-test.true _ c.piece_end-next.ensures _ c.read_number.ensures c.in_err-list.was

pub loop-at-preserved : goal.loop-at-preserved
loop-at-preserved c =
    let l = c.loop-at in
    (omega arith, end_within _ _ _ (omega arith) c.piece_end-next.ensures, gather_next _ _ _ _ _ l.invariant.2 c.loop-at-test.true _ c.piece_end-next.ensures _ c.read_number.ensures _ c.in_ok-list.was (omega arith))

pub returns : goal.returns
returns c = search gather_end
