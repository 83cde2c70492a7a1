-- `mmu::tsb::descriptor_at` meets its contract: each field is a part of the range.
use native.Mathlib.Omega.{arith}
use native.Mathlib.Nat.{add-zero}
use Rattle.memory.proofs.Places.{valid_part}
use Rattle.plants.proofs.Reach.{range_ends}
use Rattle.mmu.proofs.TsbLaws.{descriptor_read}
use Rattle.mmu.proofs.tsb.descriptor_at.Goals as goal

pub number-requires-clause-real_value : goal.number-requires-clause-real_value
number-requires-clause-real_value c = rw add-zero at (valid_part _ _ _ 0 2 c.requires.real_value (omega arith))

pub overflow_add-at : goal.overflow_add-at
overflow_add-at c = omega (arith, range_ends c.args.extents _ c.args.real.0 32 c.well_formed.0 c.requires.real_value (omega arith))

pub number-requires-2-clause-real_value : goal.number-requires-2-clause-real_value
number-requires-2-clause-real_value c = valid_part _ _ _ 2 2 c.requires.real_value (omega arith)

pub overflow_add-at-2 : goal.overflow_add-at-2
overflow_add-at-2 c = omega (arith, range_ends c.args.extents _ c.args.real.0 32 c.well_formed.0 c.requires.real_value (omega arith))

pub number-requires-3-clause-real_value : goal.number-requires-3-clause-real_value
number-requires-3-clause-real_value c = valid_part _ _ _ 4 4 c.requires.real_value (omega arith)

pub overflow_add-at-3 : goal.overflow_add-at-3
overflow_add-at-3 c = omega (arith, range_ends c.args.extents _ c.args.real.0 32 c.well_formed.0 c.requires.real_value (omega arith))

pub number-requires-4-clause-real_value : goal.number-requires-4-clause-real_value
number-requires-4-clause-real_value c = valid_part _ _ _ 8 4 c.requires.real_value (omega arith)

pub overflow_add-at-4 : goal.overflow_add-at-4
overflow_add-at-4 c = omega (arith, range_ends c.args.extents _ c.args.real.0 32 c.well_formed.0 c.requires.real_value (omega arith))

pub number-requires-5-clause-real_value : goal.number-requires-5-clause-real_value
number-requires-5-clause-real_value c = valid_part _ _ _ 12 4 c.requires.real_value (omega arith)

pub overflow_add-at-5 : goal.overflow_add-at-5
overflow_add-at-5 c = omega (arith, range_ends c.args.extents _ c.args.real.0 32 c.well_formed.0 c.requires.real_value (omega arith))

pub number-requires-6-clause-real_value : goal.number-requires-6-clause-real_value
number-requires-6-clause-real_value c = valid_part _ _ _ 16 8 c.requires.real_value (omega arith)

pub returns : goal.returns
returns c = descriptor_read _ _ _ _ _ _ _ _ c.number.ensures.0 c.number-2.ensures.0 c.number-3.ensures.0 c.number-4.ensures.0 c.number-5.ensures.0 c.number-6.ensures.0
