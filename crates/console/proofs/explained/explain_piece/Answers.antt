-- A line is fed whole, and then its end; what is left behind the last line is fed as it is.
use Rattle.console.proofs.Parts.{line_fed, rest_fed}
use Rattle.std.proofs.Common.{rules}
use Rattle.console.proofs.explained.explain_piece.Goals as goal

pub loop-n-preserved : goal.loop-n-preserved
loop-n-preserved g c = (
  search rules,
  search rules,
  line_fed _ _ _ _ _ _ _ _ _ c.loop-n.invariant.2 c.in-Some.ensures.0 c.in-Some.ensures.1 c.in_ok-left.ensures c.in_ok-left-2.ensures,
)

pub returns : goal.returns
returns g c = rest_fed c.answer_piece-2.result _ _ _ _ _ _ _ c.loop-n.invariant.2 c.answer_piece-2.ensures
