-- `plants::parts::all_disabled` meets its contract: each call of the closure gives a source disabled.
use Rattle.rules.specs.Kept.{blank_source}
use Rattle.std.proofs.Common.{arith, rules}
use Rattle.rules.specs.Versions.{disabled}
use Rattle.plants.proofs.MapLaws.{mapped}
use Rattle.plants.proofs.parts.all_disabled.Goals as goal

pub returns : goal.returns
returns c = mapped _ disabled blank_source blank_source _ _ _ _ c.map.ensures.items (omega arith) (λ p x y q k. search rules)
