-- What printing asks of a desk.
use Rattle.std.specs.Prelude.{◌≡◌, true}
use Rattle.rules.specs.declared.Desk.{Desk}
use Rattle.rules.specs.Types.{Loading}
use Rattle.rules.specs.declared.Stage.{Stage}
use Rattle.rules.specs.Tables.{keep_rules}

-- tables that were loaded keep the rules
abbrev pub LoadsKeep : Desk → Type 0
LoadsKeep desk = (answer : Loading) → desk.stage ≡ Stage.Loaded answer → keep_rules desk.tables ≡ true
