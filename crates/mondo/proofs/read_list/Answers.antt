-- `mondo::read_list` meets its contract: the invariant is that the first i listed cpus are read.
use native.Mathlib.Omega.{arith}
use mathlib.Core.Path.{refl}
use Prim.Native.Nat.{◌*◌}
use lib.ListN.{length-set}
use Rattle.memory.proofs.Places.{valid_part}
use Rattle.mondo.proofs.MondoLaws.{read_none, read_more}
use Rattle.plants.proofs.Reach.{range_ends}
use Rattle.mondo.proofs.read_list.Goals as goal

pub loop-i-init : goal.loop-i-init
loop-i-init c = (refl, read_none _ _)

pub overflow_add-at : goal.overflow_add-at
overflow_add-at c =
    omega (arith, range_ends c.args.extents _ c.args.list (2 * c.args.count) c.well_formed.0 c.requires.count_value (omega arith))

pub number-requires : goal.number-requires
number-requires c =
    record { k_bound = omega arith; extents_le_extent_limit = c.requires.extents_le_extent_limit.0; ready = c.requires.ready; real_value = valid_part _ _ _ _ _ c.requires.count_value (omega arith) }

pub loop-i-preserved : goal.loop-i-preserved
loop-i-preserved c =
    let l = c.loop-i in
    (simp length-set l.invariant.0, read_more _ _ _ _ _ l.invariant.1 (omega arith) c.number.ensures.0)
