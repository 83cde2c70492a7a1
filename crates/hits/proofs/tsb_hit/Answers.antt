-- `hits::tsb_hit` meets its contract: the row that it counts in lies in the buffer.
use Rattle.std.proofs.Common.{◌+◌, ap, arith}
use Rattle.plants.proofs.Reach.{range_ends}
use Rattle.hits.proofs.HitLaws.{index_most, row_valid}
use mathlib.Core.Bool.{not}
use Rattle.hits.proofs.tsb_hit.Goals as goal

pub overflow_add-at : goal.overflow_add-at
overflow_add-at c =
    let few = index_most _ _ c.is_page_index.ensures (ap not c.if-not-is_page_index.false) in
    omega (arith, few, c.hits_offset.ensures, range_ends c.args.extents _ _ 512 c.well_formed.0 (c.requires.buffer_sound c.if-address-eq0.false) (omega arith))

pub count-requires-clause-at_value : goal.count-requires-clause-at_value
count-requires-clause-at_value c =
    let few = index_most _ _ c.is_page_index.ensures (ap not c.if-not-is_page_index.false) in
    let at = ap (λ n. c.args.own.statistics + n) c.hits_offset.ensures in
    row_valid c.args.extents _ _ _ _ _ c.requires.buffer_sound c.if-address-eq0.false c.if-side-gt1.false c.if-context-gt1.false few at
