-- `partition::first_clash` meets its contract: none of the pairs passed clashes.
use Rattle.std.proofs.Common.{◌≡◌, ℕ, Bool, false, None}
use Rattle.partition.specs.Rules.{Clashes}
use Rattle.partition.proofs.Pairs.{clash, clashes}
use Rattle.partition.proofs.first_clash.Given as goal

abbrev pub invariant-pairs : goal.invariant-pairs
invariant-pairs g l = (l.found ≡ None) × ((p : ℕ → ℕ → Bool) → Clashes (goal.F-post g l.clash) l.n p → clash p l.j ≡ None)

abbrev pub invariant-loop-i : goal.invariant-loop-i
invariant-loop-i g l = (l.found ≡ None) × ((p : ℕ → ℕ → Bool) → Clashes (goal.F-post g l.clash) l.n p → (clash p l.j ≡ None) × (clashes p l.j l.i ≡ false))
