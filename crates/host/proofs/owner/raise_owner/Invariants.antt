-- `host::owner::raise_owner` meets its contract: a search of the guests that are there.
use Rattle.std.proofs.Common.{None}
use mathlib.Core.Path.{◌≡◌}
use Prim.Native.Nat.{◌≤◌}
use Rattle.rules.specs.Scan.{first_below}
use Rattle.host.proofs.OwnerLaws.{has}
use Rattle.host.proofs.owner.raise_owner.Given as goal

abbrev pub invariant-loop-g : goal.invariant-loop-g
invariant-loop-g l = (l.g ≤ l.guests) × (first_below l.g (has l.guests l.guest l.d) ≡ None)
