-- `put_guests` meets its contract: before each turn the first guests are put, and `at` is the bit behind them.
use native.Mathlib.Omega.{arith}
use Prim.Native.Nat.{◌<◌}
use Rattle.std.proofs.lemmas.List.{get_or-take}
use Rattle.rules.specs.Kept.{hollow_guest, guest_at}
use Rattle.rules.specs.Scan.{each_below}
use Rattle.rules.specs.Writing.{guest_row}
use Rattle.tables.proofs.SoundTables.{guests_few}
use Rattle.writer.proofs.RowLaws.{put_same_length, each_next_length, each_put_start, each_put_next, each_put_end}
use Rattle.writer.proofs.WriteLaws.{guest_few, guest_inside}
use Rattle.writer.proofs.put_guests.Goals as goal

pub shared_ref_as_front-guest-items : goal.shared_ref_as_front-guest-items
shared_ref_as_front-guest-items c = omega (arith, guests_few _ c.requires.tables_value)

pub loop-guest-init : goal.loop-guest-init
unfolding each_below
loop-guest-init c = (omega arith, omega arith, each_put_start _ _ (λ g. guest_row (guest_at c.args.tables g)))

pub put_guest-requires : goal.put_guest-requires
put_guest-requires c =
    let l = c.loop-guest in
    let i = l.guest-index in
    let tables = c.args.tables in
    let here : i < tables.guests = omega arith in
    let few = guest_few tables i here c.requires.tables_value in
    let n = guests_few tables c.requires.tables_value in
    rw (get_or-take tables.guests tables.guest i hollow_guest here)
    (record { at_bound = (omega arith, few.0, few.1); guest_bound = omega (arith, guest_inside tables i here, put_same_length _ _ _ _ l.invariant.2) })

pub loop-guest-preserved : goal.loop-guest-preserved
loop-guest-preserved c =
    let l = c.loop-guest in
    let i = l.guest-index in
    let tables = c.args.tables in
    let here : i < tables.guests = omega arith in
    let bits = rw (get_or-take tables.guests tables.guest i hollow_guest here) at c.guest_bits-at.ensures in
    let put = rw (get_or-take tables.guests tables.guest i hollow_guest here) at c.put_guest.ensures in
    (omega (arith, each_next_length (λ g. guest_row (guest_at tables g)) i), omega arith, each_put_next _ _ _ _ _ l.invariant.2 _ _ l.invariant.0 put)

pub returns : goal.returns
returns c = each_put_end _ _ _ _ _ c.loop-guest.invariant.2 _ (omega arith) (omega arith)
