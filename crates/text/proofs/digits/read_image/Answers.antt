-- `digits::read_image` meets its contract. The invariant: the first n bytes of out, the digit that waits and the text that is left make the
-- image; behind the first n bytes out is as it was. Each byte takes two digits, so that there is room.
use Rattle.std.proofs.Common.{Some, None, sym, ◌∙◌, arith}
use Rattle.text.proofs.ImageLaws.{Reading, left, read_left, reading_start, reading_space, reading_bad, reading_waits, reading_byte, byte_fits, reading_odd, reading_even}
use Rattle.text.proofs.digits.read_image.Goals as goal
use Rattle.text.proofs.digits.read_image.Goals.{in-None, in-Some}

pub loop-b-init : goal.loop-b-init
loop-b-init c = reading_start _ _

pub loop-b-preserved-then-b-eq32 : goal.loop-b-preserved-then-b-eq32
loop-b-preserved-then-b-eq32 c = reading_space _ _ _ _ _ _ c.loop-b.invariant c.loop-b-test.true c.if-b-eq32.true

pub returns-in_err-d : goal.returns-in_err-d
returns-in_err-d c =
    let r = read_left c.args.from c.args.s.now _ _ _ (reading_bad _ _ _ _ _ _ c.loop-b.invariant c.loop-b-test.true c.if-b-eq32.false (sym c.in_err-d.ensures)) in
    record { size = c.from_residual.ensures ∙ r.size; bytes = r.bytes }

pub overflow_add-out : goal.overflow_add-out
overflow_add-out c =
    let r : Reading (left c.args.from c.args.s.now) c.args.out.now c.loop-b.out c.loop-b.n (Some c.in-Some.first) c.loop-b.b-index = rw (← c.in-Some.is) c.loop-b.invariant in
    omega (arith, byte_fits _ _ _ _ _ c.in_ok-d.d c.loop-b-test.true c.if-b-eq32.false (sym c.in_ok-d.ensures) c.in-Some.first r)

pub returns-in-None-high : goal.returns-in-None-high
returns-in-None-high c =
    let r : Reading (left c.args.from c.args.s.now) c.args.out.now c.loop-b.out c.loop-b.n None c.loop-b.b-index = rw (← c.in-None-high.is) c.loop-b.invariant in
    let w = read_left c.args.from c.args.s.now _ _ _ (reading_even _ _ _ _ _ c.loop-b-test.false r) in
    record { size = w.size; bytes = w.bytes }

pub returns-in-Some-high : goal.returns-in-Some-high
returns-in-Some-high c =
    let r : Reading (left c.args.from c.args.s.now) c.args.out.now c.loop-b.out c.loop-b.n (Some c.in-Some-high.field-0) c.loop-b.b-index = rw (← c.in-Some-high.is) c.loop-b.invariant in
    let w = read_left c.args.from c.args.s.now _ _ _ (reading_odd _ _ _ _ _ c.loop-b-test.false _ r) in
    record { size = w.size; bytes = w.bytes }

pub loop-b-preserved : goal.loop-b-preserved
loop-b-preserved c =
    let t = left c.args.from c.args.s.now in
    elim c.match-high.branch [
      | in-None w ↦
          let r : Reading t c.args.out.now c.loop-b.out c.loop-b.n None c.loop-b.b-index = rw (← w.in-None.is) c.loop-b.invariant in
          rw (w.out-is, w.n-is, w.high-is) (reading_waits _ _ _ _ _ c.in_ok-d.d c.loop-b-test.true c.if-b-eq32.false (sym c.in_ok-d.ensures) r)
      | in-Some w ↦
          let r : Reading t c.args.out.now c.loop-b.out c.loop-b.n (Some w.in-Some.first) c.loop-b.b-index = rw (← w.in-Some.is) c.loop-b.invariant in
          rw (w.out-is, w.n-is, w.high-is) (reading_byte _ _ _ _ _ c.in_ok-d.d c.loop-b-test.true c.if-b-eq32.false (sym c.in_ok-d.ensures) w.in-Some.first r)
    ]
