-- `calls::plant::plant_raise` meets its contract: by the source that the name stands for.
use borrow.Author.Rules.{rules}
use Rattle.sources.proofs.SourceLaws.{named_there, named_source}
use Rattle.calls.proofs.OwnLaws.{own_target}
use Rattle.calls.proofs.PlantLaws.{raise_nothing, raise_there}
use Rattle.calls.proofs.plant.plant_raise.Goals as goal

pub raise_at-requires : goal.raise_at-requires
raise_at-requires c = record { sound = search rules; i_lt_sources = search named_there; source_value = search named_source; own_value = search own_target }

pub returns-in-None : goal.returns-in-None
returns-in-None c = raise_nothing _ _ _ _ _ _ c.in-None.ensures c.told.ensures

pub returns-in-Some : goal.returns-in-Some
returns-in-Some c = raise_there _ _ _ _ _ _ _ _ _ c.in-Some.ensures c.raise_at.ensures
