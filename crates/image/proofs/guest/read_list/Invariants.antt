-- `guest::read_list` meets its contract: before each turn the first i places are read.
use Rattle.std.proofs.Common.{◌≡◌, ℕ}
use Rattle.std.specs.Prelude.{replicate}
use Rattle.rules.specs.Image.{filled}
use Rattle.image.specs.Answers.{Reads}
use Rattle.image.proofs.guest.read_list.Given as goal

abbrev pub invariant-loop-i : goal.invariant-loop-i
invariant-loop-i g l = (size : ℕ) (blank : g.row.T.Denot) (f : ℕ → g.row.T.Denot) → l.fn.list ≡ replicate size blank → Reads (goal.F-post g l.read) l.k f → l.list ≡ filled size blank f l.i
