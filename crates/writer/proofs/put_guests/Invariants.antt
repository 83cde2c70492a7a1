-- `put_guests` meets its contract: before each turn the first guests are put, and `at` is the bit behind them.
use mathlib.Core.Path.{◌≡◌}
use Prim.Native.Nat.{◌+◌, ◌*◌, ◌^◌, ◌≤◌}
use lib.ListN.{length}
use Rattle.rules.specs.Kept.{guest_at}
use Rattle.rules.specs.Scan.{each_below}
use Rattle.rules.specs.Widths.{header_bits}
use Rattle.rules.specs.Writing.{guest_row}
use Rattle.bits.specs.Put.{put_bits}
use Rattle.writer.proofs.put_guests.Given as goal

abbrev pub invariant-loop-guest : goal.invariant-loop-guest
invariant-loop-guest l =
    (l.at ≡ header_bits + length (each_below l.guest-index (λ g. guest_row (guest_at l.fn.tables g))))
    × (l.at ≤ header_bits + 2 ^ 15 * l.guest-index)
    × (l.out ≡ put_bits l.initial.out header_bits (each_below l.guest-index (λ g. guest_row (guest_at l.fn.tables g))))
