-- `plan::put_plan` meets its contract. The invariant: the lines of the first guests stand there.
use native.Mathlib.Omega.{arith}
use Prim.Native.Nat.{◌<◌}
use Rattle.std.proofs.lemmas.List.{get_or-take}
use Rattle.rules.specs.Kept.{hollow_guest}
use Rattle.rules.specs.Plan.{plan_text}
use Rattle.tables.proofs.SoundTables.{guests_few}
use Rattle.plans.proofs.EachLaws.{each_start, each_next, each_end}
use Rattle.plans.proofs.FewLaws.{few_extents, few_sources, guest_room}
use Rattle.plans.proofs.plan.put_plan.Goals as goal

pub shared_ref_as_front-guest-items : goal.shared_ref_as_front-guest-items
shared_ref_as_front-guest-items c = omega (arith, guests_few _ c.requires)

pub loop-guest-init : goal.loop-guest-init
loop-guest-init c = each_start _ _ _

pub put_guest_lines-at-requires : goal.put_guest_lines-at-requires
put_guest_lines-at-requires c =
    let keep = c.requires in
    let i = c.loop-guest.guest-index in
    let tables = c.args.tables in
    let few = guests_few tables keep in
    let here : i < tables.guests = omega arith in
    rw (get_or-take tables.guests tables.guest i hollow_guest here)
    (few_extents _ keep i here, few_sources _ keep i here, guest_room _ keep _ _ i _ c.loop-guest.invariant here)

pub loop-guest-preserved : goal.loop-guest-preserved
loop-guest-preserved c =
    let i = c.loop-guest.guest-index in
    let tables = c.args.tables in
    let few = guests_few tables c.requires in
    let here : i < tables.guests = omega arith in
    let put = rw (get_or-take tables.guests tables.guest i hollow_guest here) at c.put_guest_lines-at.ensures in
    each_next _ _ _ _ _ _ c.loop-guest.invariant _ _ put

pub returns : goal.returns
unfolding plan_text
returns c =
    let few = guests_few c.args.tables c.requires in
    each_end _ _ _ _ _ _ c.loop-guest.invariant _ (omega arith) (omega arith)
