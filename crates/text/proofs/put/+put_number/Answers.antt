-- `put::put_number` meets its contract: a last digit behind the number that is left without it, which is smaller.
use Rattle.std.proofs.Common.{arith}
use native.Mathlib.Nat.{le_of_lt}
use Rattle.text.proofs.PutLaws.{numeral_less, number_place, number_few, number_fits, number_more}
use Rattle.text.proofs.put.+put_number.Goals as goal

pub bounds-out-at : goal.bounds-out-at
bounds-out-at t c = number_place _ _ _ _ c.requires.2 c.if-n-base.true

pub returns-then-n-base : goal.returns-then-n-base
returns-then-n-base t c = number_few _ _ _ _ c.requires.2 c.if-n-base.true _ c.digit_byte.ensures

pub put_number-last-requires : goal.put_number-last-requires
put_number-last-requires t c =
    (omega (arith, numeral_less _ c.requires.0 _ c.if-n-base.false), (c.requires.0, c.requires.1, le_of_lt (number_fits _ _ _ _ c.requires.2 c.requires.0 c.if-n-base.false)))

pub bounds-out-last : goal.bounds-out-last
bounds-out-last t c = omega (arith, c.put_number-last.ensures.behind, number_fits _ _ _ _ c.requires.2 c.requires.0 c.if-n-base.false)

pub overflow_add-result-2 : goal.overflow_add-result-2
overflow_add-result-2 t c = omega (arith, c.put_number-last.ensures.behind, number_fits _ _ _ _ c.requires.2 c.requires.0 c.if-n-base.false)

pub returns : goal.returns
returns t c = number_more _ _ _ _ c.requires.2 c.requires.0 c.if-n-base.false _ _ _ c.digit_byte-2.ensures c.put_number-last.ensures
