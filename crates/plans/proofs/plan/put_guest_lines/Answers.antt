-- `plan::put_guest_lines` meets its contract: the guest's line, then those of its extents and of its sources.
use Rattle.rules.specs.Plan.{guest_lines}
use Rattle.plans.proofs.LineLaws.{cpus_most, extents_most}
use Rattle.text.proofs.PutLaws.{put_behind}
use native.Mathlib.Omega.{arith}
use borrow.Author.Rules.{rules}
use Rattle.plans.proofs.plan.put_guest_lines.Goals as goal

pub put_extent_lines-behind-requires : goal.put_extent_lines-behind-requires
put_extent_lines-behind-requires c = (search rules, omega (arith, cpus_most c.args.guest.plant.cpus))

pub put_source_lines-requires : goal.put_source_lines-requires
put_source_lines-requires c =
    (search rules, omega (arith, cpus_most c.args.guest.plant.cpus, extents_most c.args.guest c.requires.0 c.requires.1))

pub returns : goal.returns
unfolding guest_lines
returns c =
    put_behind _ _ _ _ _ _ _ _ c.put_word_line-first.ensures
    (put_behind _ _ _ _ _ _ _ _ c.put_extent_lines-behind.ensures c.put_source_lines.ensures)
