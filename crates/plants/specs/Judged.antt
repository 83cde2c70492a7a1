-- What a verdict of the code makes of what follows it in a rule.
use Rattle.std.specs.Prelude.{Ok, Err}
use Rattle.rules.specs.Rulings.{Ruling, refused}
use Rattle.records.specs.Verdict.{Verdict}

unfoldable pub judged : {A : Type 0} → Verdict → Ruling A → Ruling A
judged (Ok u) rest = rest
judged (Err r) rest = refused r
