-- A feed takes some of what is left, and no more than that.
use Rattle.session.proofs.Fits.{written_fits, written_taken}
use Rattle.session.proofs.InParts.{more_fed, more_within, more_taken, none_left}
use Rattle.std.proofs.Common.{rules, arith}
use Rattle.console.proofs.plain.PlainStyle.answer_piece.Goals as goal

pub overflow_add-from : goal.overflow_add-from
overflow_add-from g c =
    let l = c.loop-from in
    omega (arith, more_within _ _ _ _ _ l.invariant.2 _ _ _ _ c.feed-fed.ensures l.invariant.0)

pub slice_bounds-write_text-end : goal.slice_bounds-write_text-end
slice_bounds-write_text-end g c = written_fits _ _ _ _ _ _ _ _ c.feed-fed.ensures

pub slice_bounds-write_text-end-in-loop-from : goal.slice_bounds-write_text-end-in-loop-from
slice_bounds-write_text-end-in-loop-from g c = written_taken _ _ _ _ _ _ _ _ c.feed-fed.ensures

pub loop-from-smaller : goal.loop-from-smaller
loop-from-smaller g c =
    let l = c.loop-from in
    let some = more_taken _ _ _ _ _ l.invariant.2 _ _ _ _ c.feed-fed.ensures c.loop-from-test.true (omega (arith, c.requires, l.invariant.1)) in
    omega (arith, some, more_within _ _ _ _ _ l.invariant.2 _ _ _ _ c.feed-fed.ensures l.invariant.0)

pub loop-from-preserved : goal.loop-from-preserved
loop-from-preserved g c =
    let l = c.loop-from in (
      more_within _ _ _ _ _ l.invariant.2 _ _ _ _ c.feed-fed.ensures l.invariant.0,
      search rules,
      more_fed _ _ _ _ _ l.invariant.2 _ _ _ _ c.feed-fed.ensures,
    )

pub returns : goal.returns
returns g c = none_left _ _ _ _ _ c.loop-from.from (search rules) c.loop-from.invariant.2
