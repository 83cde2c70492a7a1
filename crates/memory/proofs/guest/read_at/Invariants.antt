-- `read_at` meets its contract. The invariant: the first i bytes of out are those from the address on.
use Rattle.std.proofs.Common.{◌≡◌, ◌+◌, ◌-◌, ◌^◌, ◌≤◌, ◌<◌, length, take}
use Rattle.rules.specs.Real.{byte_at, bytes_from}
use Rattle.memory.specs.Ready.{present}
use Rattle.memory.proofs.guest.read_at.Given as goal

abbrev pub invariant-loop-i : goal.invariant-loop-i
invariant-loop-i l = (l.i ≤ length l.initial.out) × (l.real.0 + l.i < 2 ^ 64) × (take l.i l.out ≡ bytes_from (byte_at (present l.e) l.mem) l.real.0 l.i)

abbrev pub decreases-loop-i : goal.decreases-loop-i
decreases-loop-i l = length l.initial.out - l.i
