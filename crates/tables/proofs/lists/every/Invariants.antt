-- The loop of `tables::lists::every`: what has come of the places before this one.
use Rattle.std.proofs.Common.{◌≡◌, take}
use Rattle.std.specs.List.{list_all}
use mathlib.Core.Bool.{Bool}
use Rattle.tables.specs.Tests.{Tests}
use Rattle.tables.proofs.lists.every.Given as goal

abbrev pub invariant-loop-x : goal.invariant-loop-x
invariant-loop-x g l = (p : _ → Bool) → Tests (goal.P-post g l.test) p → l.keep ≡ list_all p (take l.x-index l.list)
