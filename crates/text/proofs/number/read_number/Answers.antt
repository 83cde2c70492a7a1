-- `number::read_number` meets its contract. The invariant: v is the number of the digits so far, and makes with those behind them the text's.
use Rattle.std.proofs.Common.{◌≡◌, ◌≤◌, ◌∙◌, Some, length, sym, arith}
use Rattle.std.proofs.lemmas.Bool.Decides.{nat_tests}
use mathlib.Core.Logic.{⊎_elim}
use Rattle.rules.specs.Text.{digit_of}
use Rattle.text.proofs.NumberLaws.{number_none, number_long, number_next, number_bad, number_end, number_room, number_grows}
use Rattle.text.proofs.number.read_number.Goals as goal

pub overflow_mul-v : goal.overflow_mul-v
overflow_mul-v c = omega (arith, number_room _ _ _ _ c.loop-b.invariant.0 (sym c.in_ok-d.ensures) (omega arith))

pub overflow_add-v : goal.overflow_add-v
overflow_add-v c = omega (arith, number_room _ _ _ _ c.loop-b.invariant.0 (sym c.in_ok-d.ensures) (omega arith))

pub loop-b-preserved : goal.loop-b-preserved
loop-b-preserved c =
    let q : digit_of _ ≡ Some c.from.result = sym c.in_ok-d.ensures ∙ cc in
    (number_grows _ _ _ _ c.loop-b.invariant.0 q, number_next _ _ _ c.loop-b.invariant.1 c.loop-b-test.true _ q)

pub returns-in_err-d : goal.returns-in_err-d
returns-in_err-d c =
    let n : 1 ≤ length c.args.text.now = grind (arith, nat_tests) in
    c.from_residual.ensures ∙ number_bad _ _ _ c.loop-b.invariant.1 n (omega arith) c.loop-b-test.true (sym c.in_err-d.ensures)

pub returns : goal.returns
returns c =
    let n : 1 ≤ length c.args.text.now = grind (arith, nat_tests) in
    number_end _ _ _ c.loop-b.invariant.1 n (omega arith) c.loop-b-test.false

pub returns-then-is_empty : goal.returns-then-is_empty
returns-then-is_empty c = ⊎_elim (λ l. number_none _ (grind (arith, nat_tests))) (λ g. number_long _ g.1) c.then-is_empty.either
