-- `plan::put_extent_lines` meets its contract. The invariant: the lines of the first extents stand there.
use native.Mathlib.Omega.{arith}
use Prim.Native.Nat.{◌<◌}
use Rattle.std.proofs.lemmas.List.{get_or-take}
use Rattle.rules.specs.Kept.{blank_extent}
use Rattle.plans.proofs.EachLaws.{each_start, each_next, each_end, each_place}
use Rattle.plans.proofs.LineLaws.{extent_most}
use Rattle.plans.proofs.plan.put_extent_lines.Goals as goal

pub loop-x-init : goal.loop-x-init
loop-x-init c = each_start _ _ _

pub put_extent_line-at-requires : goal.put_extent_line-at-requires
put_extent_line-at-requires c = omega (arith, each_place _ _ _ _ _ _ c.loop-x.invariant 58 (λ k h. extent_most _))

pub loop-x-preserved : goal.loop-x-preserved
loop-x-preserved c =
    let here : c.loop-x.x-index < c.args.extents.extents = omega arith in
    let put = rw (get_or-take c.args.extents.extents c.args.extents.extent c.loop-x.x-index blank_extent here) at c.put_extent_line-at.ensures in
    each_next _ _ _ _ _ _ c.loop-x.invariant _ _ put

pub returns : goal.returns
returns c = each_end _ _ _ _ _ _ c.loop-x.invariant _ (omega arith) (omega arith)
