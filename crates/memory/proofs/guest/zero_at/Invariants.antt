-- `zero_at` meets its contract. The invariant: i zeros are put where their addresses lie.
use mathlib.Core.Path.{◌≡◌}
use Prim.Native.Nat.{◌+◌, ◌-◌, ◌^◌, ◌≤◌, ◌<◌}
use lib.ListN.{length, replicate}
use Rattle.rules.specs.Real.{put_bytes}
use Rattle.memory.specs.Ready.{present}
use Rattle.memory.proofs.guest.zero_at.Given as goal

abbrev pub invariant-loop-i : goal.invariant-loop-i
invariant-loop-i l = (l.i ≤ l.n) × (length l.mem ≡ length l.initial.mem) × (l.real.0 + l.i < 2 ^ 64) × (l.mem ≡ put_bytes (present l.e) l.initial.mem l.real.0 (replicate l.i 0))

abbrev pub decreases-loop-i : goal.decreases-loop-i
decreases-loop-i l = l.n - l.i
