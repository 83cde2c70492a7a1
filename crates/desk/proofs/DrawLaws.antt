-- The place of the last guest, where there is one.
use mathlib.Core.Bool.{true}
use mathlib.Core.Path.{◌≡◌}
use Prim.Native.Nat.{◌-◌, ◌<◌, ◌≤◌}
use native.Mathlib.Omega.{arith}
use lib.Dec.{leb}
use borrow.Author.Tests.{leb-true}
use Rattle.rules.specs.declared.Tables.{Tables}
use Rattle.rules.specs.Plan.{some_guest}
use Rattle.rules.proofs.Tests.{and_left, and_right}

module _ (tables : Tables) (h : some_guest tables ≡ true) where
  some_least : 1 ≤ tables.guests
  some_least = leb-true 1 tables.guests (and_left _ _ h)

  pub some_last : tables.guests - 1 < 4
  some_last = omega (arith, leb-true tables.guests 4 (and_right (leb 1 tables.guests) _ h), some_least)
