-- `line::plan_line` meets its contract: too long, fields that are not right, or what they add.
use mathlib.Core.Path.{sym, ◌∙◌}
use lib.Seq.{length-take-le}
use Rattle.text.proofs.PieceLaws.{end_within}
use Rattle.text.proofs.RightLaws.{event_held}
use Rattle.desk.proofs.LineLaws.{plan_long, plan_wrong, plan_right}
use native.Mathlib.Omega.{arith}
use Rattle.desk.proofs.line.plan_line.Goals as goal

pub returns-then-s-gt2048 : goal.returns-then-s-gt2048
returns-then-s-gt2048 c = plan_long _ (omega arith)

pub read_fields-requires : goal.read_fields-requires
read_fields-requires c = end_within _ _ _ (omega arith) c.piece_end-end.ensures

pub returns-in_err-read : goal.returns-in_err-read
returns-in_err-read c = c.from_residual.ensures ∙ plan_wrong _ (omega arith) _ c.piece_end-end.ensures c.in_err-read.ensures

pub slice_bounds-addition_of-end : goal.slice_bounds-addition_of-end
slice_bounds-addition_of-end c = sym (length-take-le _ _ (end_within _ _ _ (omega arith) c.piece_end-end.ensures))

pub addition_of-requires : goal.addition_of-requires
addition_of-requires c = event_held _ _ c.in_ok-read.ensures

pub returns : goal.returns
returns c = plan_right _ (omega arith) _ c.piece_end-end.ensures _ c.in_ok-read.ensures _ c.addition_of.ensures
