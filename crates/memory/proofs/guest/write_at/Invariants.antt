-- `write_at` meets its contract. The invariant: the first i bytes of src are put where their addresses lie.
use mathlib.Core.Path.{◌≡◌}
use Prim.Native.Nat.{◌+◌, ◌-◌, ◌^◌, ◌≤◌, ◌<◌}
use lib.ListN.{length, take}
use Rattle.rules.specs.Real.{put_bytes}
use Rattle.memory.specs.Ready.{present}
use Rattle.memory.proofs.guest.write_at.Given as goal

abbrev pub invariant-loop-i : goal.invariant-loop-i
invariant-loop-i l = (l.i ≤ length l.src) × (length l.mem ≡ length l.initial.mem) × (l.real.0 + l.i < 2 ^ 64) × (l.mem ≡ put_bytes (present l.e) l.initial.mem l.real.0 (take l.i l.src))

abbrev pub decreases-loop-i : goal.decreases-loop-i
decreases-loop-i l = length l.src - l.i
