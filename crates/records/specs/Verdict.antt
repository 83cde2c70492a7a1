-- What the code tells of a ruling: that a record is right, or the status that refuses it.
use Rattle.std.specs.Prelude.{Result, Ok, Err}
use Rattle.rules.specs.declared.Refusal.{Refusal}
use Rattle.rules.specs.Rulings.{Ruling, refused, granted}

abbrev pub Verdict : Type 0
Verdict = Result Unit Refusal

unfoldable pub verdict_of : {A : Type 0} → Ruling A → Verdict
verdict_of (refused r) = Err r
verdict_of (granted a) = Ok tt
