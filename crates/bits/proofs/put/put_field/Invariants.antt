-- `bits::put::put_field` meets its contract: before each turn, what is left to do from here is the whole.
use mathlib.Core.Path.{◌≡◌}
use Prim.Native.Nat.{◌+◌, ◌*◌, ◌≤◌, ◌<◌}
use lib.ListN.{length}
use Rattle.rules.specs.Bits.{bits_of}
use Rattle.bits.specs.Put.{put_bits}
use Rattle.bits.proofs.put.put_field.Given as goal

abbrev pub invariant-loop-left : goal.invariant-loop-left
invariant-loop-left l =
    (l.left ≤ 64) × (l.from < 8) × (8 * l.i + l.from + l.left ≤ 8 * length l.initial.out) × (length l.out ≡ length l.initial.out) × (put_bits l.initial.out l.at (bits_of l.n l.v) ≡ put_bits l.out (8 * l.i + l.from) (bits_of l.left l.v))

abbrev pub decreases-loop-left : goal.decreases-loop-left
decreases-loop-left l = l.left
