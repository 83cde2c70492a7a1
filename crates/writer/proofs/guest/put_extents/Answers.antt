-- `guest::put_extents` meets its contract: before each turn the first i are put.
use native.Mathlib.Omega.{arith}
use Prim.Native.Nat.{◌<◌}
use Rattle.std.proofs.lemmas.List.{get_or-take}
use Rattle.rules.specs.Kept.{blank_extent}
use Rattle.rules.specs.Widths.{extent_bits}
use Rattle.writer.proofs.RowLaws.{extent_length, each_put_start, each_put_same, each_put_end}
use Rattle.writer.proofs.guest.put_extents.Goals as goal

pub loop-i-init : goal.loop-i-init
loop-i-init c = each_put_start _ _ _

pub loop-i-preserved : goal.loop-i-preserved
loop-i-preserved c =
    let here : c.loop-i.i < c.args.e.extents = omega arith in
    each_put_same _ _ _ _ _ c.loop-i.invariant extent_bits (λ j. extent_length _) _ (rw (get_or-take c.args.e.extents c.args.e.extent c.loop-i.i blank_extent here) at c.put_extent.ensures)

pub returns : goal.returns
returns c = each_put_end _ _ _ _ _ c.loop-i.invariant _ (omega arith) (omega arith)
