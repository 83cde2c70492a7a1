-- What the code of the interrupt sources reads of a plant's record, and what it makes of a source.
use Rattle.std.specs.Prelude.{◌≡◌, ℕ, Option, Some, None, Result, Ok, Err}
use Rattle.rules.specs.declared.Plant.{Plant}
use Rattle.rules.specs.declared.Refusal.{Refusal}
use Rattle.rules.specs.declared.Source.{Source}
use Rattle.rules.specs.Kept.{source_at, with_source}
use Rattle.rules.specs.Rulings.{Ruling, refused, Outcome, done}
use Rattle.rules.specs.Sources.{sysino_of}

-- a position with the record there
unfoldable pub named_as : Plant → Option ℕ → Option (ℕ × Source)
named_as plant None = None
named_as plant (Some i) = Some (i, source_at plant i)

-- the source of a name
abbrev pub named_in : Plant → ℕ → ℕ → Option (ℕ × Source)
named_in plant devhandle devino = named_as plant (sysino_of plant devhandle devino)

-- all that a call of source i reads
pub record Shows (plant : Plant) (v n i : ℕ) (s : Source) : Type 0 where
  pub version : v ≡ plant.versions.interrupt
  pub cpus : n ≡ plant.cpus
  pub source : s ≡ source_at plant i

-- source i as a setting leaves it, or the setting's refusal
unfoldable pub set_to : Plant → ℕ → Result Source Refusal → Ruling Outcome
set_to plant i (Ok source) = done (with_source plant i source)
set_to plant i (Err r) = refused r
