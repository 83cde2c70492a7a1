-- `image_bits` meets its contract: before each turn the header and the first guests are counted.
use native.Mathlib.Omega.{arith}
use Prim.Native.Nat.{◌<◌}
use Rattle.std.proofs.lemmas.List.{get_or-take}
use Rattle.rules.specs.Kept.{hollow_guest, guest_at}
use Rattle.rules.specs.Scan.{each_below}
use Rattle.rules.specs.Writing.{guest_row}
use Rattle.writer.proofs.RowLaws.{each_next_length}
use Rattle.writer.proofs.WriteLaws.{image_end}
use Rattle.writer.proofs.image_bits.Goals as goal

pub loop-guest-init : goal.loop-guest-init
unfolding each_below
loop-guest-init c = omega arith

pub overflow_add-at : goal.overflow_add-at
overflow_add-at c = omega arith

pub loop-guest-preserved : goal.loop-guest-preserved
loop-guest-preserved c =
    let i = c.loop-guest.guest-index in
    let tables = c.args.tables in
    let here : i < tables.guests = omega arith in
    (omega (arith, each_next_length (λ g. guest_row (guest_at tables g)) i, rw (get_or-take tables.guests tables.guest i hollow_guest here) at c.guest_bits-at.ensures), omega arith)

pub returns : goal.returns
returns c =
    let l = c.loop-guest in
    (image_end _ _ _ l.invariant.0 (omega arith) (omega arith), omega arith, omega arith)
