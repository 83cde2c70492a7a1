-- `mondo::send_all` meets its contract: what is left of the list makes of the record with such tails and the memory what the
-- whole makes of those at entry, for any plant whose rings were read.
use native.Mathlib.Omega.{arith}
use mathlib.Core.Bool.{true, false, and-true, and-false}
use mathlib.Core.Path.{◌≡◌, refl, sym, ◌∙◌}
use Prim.Native.Nat.{◌<◌, ◌*◌}
use lib.ListN.{length, get_or, set, length-set}
use Rattle.rules.specs.declared.Plant.{Plant}
use Rattle.rules.specs.Mondo.{passed_over}
use Rattle.memory.proofs.Places.{valid_part}
use Rattle.plants.specs.Changes.{with_tails}
use Rattle.plants.proofs.Reach.{range_ends}
use Rattle.mondo.proofs.RingTails.{tails_own, now_sound, tail_sent, tail_left}
use Rattle.mondo.proofs.SendLaws.{Owns, index_below, other_below, sending_none, sending_more, sending_passed, sending_done}
use borrow.Author.Rules.{rules}
use Rattle.mondo.proofs.send_all.Goals as goal
use Rattle.mondo.proofs.send_all.Goals.{in-Some, in-None}

pub loop-i-init : goal.loop-i-init
loop-i-init c = (refl, omega arith, λ plant o. rw (tails_own plant _ _ o.own c.tails_of-tails.ensures) (sending_none _ _ _ _ _ _ o.sound))

pub overflow_add-mark : goal.overflow_add-mark
overflow_add-mark c =
    omega (arith, range_ends c.args.extents _ c.args.list (2 * length c.args.cpus.now) c.well_formed.0 c.requires.count_value (omega arith))

pub loop-i-preserved-then-passed_over : goal.loop-i-preserved-then-passed_over
loop-i-preserved-then-passed_over c = (search rules, search rules, λ plant o. sending_passed _ _ _ _ _ _ _ _ _ _ _ (c.loop-i.invariant.2 plant o) c.loop-i-test.true c.passed_over.ensures c.if-passed_over.true)

pub send_one-requires : goal.send_one-requires
send_one-requires c =
    let own : Owns c.args.extents (length c.args.mem.now) c.args.cpus.now c.rings_of-rings.result c.args.plant =
    record { sound = c.requires.sound; known = c.requires.by_index; own = c.rings_of-rings.ensures } in
    let other : passed_over (get_or c.args.cpus.now c.loop-i.i 0) ≡ false = sym c.passed_over.ensures ∙ c.if-passed_over.false in
    let k = (c.loop-i.invariant.2 c.args.plant own).kept in
    let b : get_or c.args.cpus.now c.loop-i.i 0 < c.args.plant.cpus = other_below _ _ (c.requires.by_index c.loop-i.i c.loop-i-test.true) other in
    record { extents_le_extent_limit = k.sound.few; ready = k.sound.ready; held_sound = now_sound c.args.extents c.args.plant c.loop-i.tails _ b _ own.own _ (rw c.from-cpu.ensures at c.at_tail-now.ensures) (k.sound.rings _ 0 (rw k.same b) (omega arith)); mark_value = valid_part _ _ _ _ _ c.requires.count_value (omega arith) }

pub loop-i-preserved : goal.loop-i-preserved
loop-i-preserved c =
    let l = c.loop-i in
    let h = c.loop-i-test.true in
    let listed = get_or c.args.cpus.now c.loop-i.i 0 in
    let other : passed_over listed ≡ false = sym c.passed_over.ensures ∙ c.if-passed_over.false in
    let cpuid : (plant : Plant) → Owns c.args.extents (length c.args.mem.now) c.args.cpus.now c.rings_of-rings.result plant → listed < plant.cpus =
    λ plant o. other_below _ _ (o.known c.loop-i.i h) other in
    let near : listed < 8 = search index_below in
    let kept : length c.send_one.new.mem ≡ length c.args.mem.now = c.send_one.auto.mem ∙ l.invariant.0 in
    let now = rw c.from-cpu.ensures at c.at_tail-now.ensures in
    let place : listed < length l.tails = omega (arith, near, l.invariant.1) in
    elim c.match-send_one.branch [
      | in-Some w ↦ (
        kept,
        rw w.tails-is (simp length-set l.invariant.1),
        λ plant o.
            rw (w.tails-is, w.all-is, c.from-cpu.ensures)
            (rw (and-true l.all) at (sending_more _ _ _ _ _ _ _ _ _ _ (record { plant = with_tails plant (set l.tails listed w.tail_of.result); all = true }) _ (l.invariant.2 plant o) h (o.known c.loop-i.i h)
            (tail_sent _ plant l.tails _ (cpuid plant o) _ o.own _ now other _ _ _ _ place _ _ w.in-Some.ensures w.tail_of.ensures) c.send_one.auto.mem)),
      )
      | in-None w ↦ (
        kept,
        rw w.tails-is l.invariant.1,
        λ plant o.
            rw (w.tails-is, w.all-is)
            (rw (and-false l.all) at (sending_more _ _ _ _ _ _ _ _ _ _ (record { plant = with_tails plant l.tails; all = false }) _ (l.invariant.2 plant o) h (o.known c.loop-i.i h)
            (tail_left _ plant l.tails _ (cpuid plant o) _ o.own _ now other _ _ _ _ place w.in-None.ensures) c.send_one.auto.mem)),
      )
    ]

pub returns : goal.returns
returns c =
    let own : Owns c.args.extents (length c.args.mem.now) c.args.cpus.now c.rings_of-rings.result c.args.plant =
    record { sound = c.requires.sound; known = c.requires.by_index; own = c.rings_of-rings.ensures } in
    sending_done _ _ _ _ _ _ _ _ _ _ (c.loop-i.invariant.2 _ own) (omega arith)
