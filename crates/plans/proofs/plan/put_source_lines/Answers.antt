-- `plan::put_source_lines` meets its contract. The invariant: the lines of the first sources stand there.
use native.Mathlib.Omega.{arith}
use Prim.Native.Nat.{◌<◌}
use Rattle.std.proofs.lemmas.List.{get_or-take}
use Rattle.rules.specs.Kept.{blank_source}
use Rattle.plans.proofs.EachLaws.{each_start, each_next, each_end, each_place}
use Rattle.plans.proofs.LineLaws.{source_most}
use Rattle.plans.proofs.plan.put_source_lines.Goals as goal

pub loop-s-init : goal.loop-s-init
loop-s-init c = each_start _ _ _

pub put_source_line-at-requires : goal.put_source_line-at-requires
put_source_line-at-requires c = omega (arith, each_place _ _ _ _ _ _ c.loop-s.invariant 58 (λ k h. source_most _))

pub loop-s-preserved : goal.loop-s-preserved
loop-s-preserved c =
    let here : c.loop-s.s-index < c.args.plant.sources = omega arith in
    let put = rw (get_or-take c.args.plant.sources c.args.plant.source c.loop-s.s-index blank_source here) at c.put_source_line-at.ensures in
    each_next _ _ _ _ _ _ c.loop-s.invariant _ _ put

pub returns : goal.returns
returns c = each_end _ _ _ _ _ _ c.loop-s.invariant _ (omega arith) (omega arith)
