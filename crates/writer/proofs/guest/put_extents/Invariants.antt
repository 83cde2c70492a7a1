-- `guest::put_extents` meets its contract: before each turn the first i are put.
use mathlib.Core.Path.{◌≡◌}
use Rattle.rules.specs.Kept.{extent_at}
use Rattle.rules.specs.Scan.{each_below}
use Rattle.rules.specs.Writing.{extent_row}
use Rattle.bits.specs.Put.{put_bits}
use Rattle.writer.proofs.guest.put_extents.Given as goal

abbrev pub invariant-loop-i : goal.invariant-loop-i
invariant-loop-i l = l.out ≡ put_bits l.initial.out l.at (each_below l.i (λ j. extent_row (extent_at l.fn.e j)))
