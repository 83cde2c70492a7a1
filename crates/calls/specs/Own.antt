-- The cpu whose record a host takes out of the plant's for an event.
use Rattle.std.specs.Prelude.{ℕ, ltb, if◌then◌else◌, Option, Some, None}
use Rattle.rules.specs.declared.Event.{Event}
use Rattle.rules.specs.declared.Plant.{Plant}
use Rattle.rules.specs.Limits.{cpu_limit}
use Rattle.rules.specs.declared.Source.{Source}
use Rattle.sources.specs.Seen.{named_in}

-- a number that is no cpu's stands for cpu 0
unfoldable pub cpu_below : ℕ → ℕ
cpu_below c = if ltb c cpu_limit then c else 0

unfoldable pub target_of : Option (ℕ × Source) → ℕ
target_of None = 0
target_of (Some (i, s)) = cpu_below s.target

-- the cpu that a call, a head write or a TSB hit names, and the target of the source that a raise names
unfoldable pub cpu_of : Plant → Event → ℕ
cpu_of plant (Event.Call c) = cpu_below c.cpu
cpu_of plant (Event.Head h) = cpu_below h.cpu
cpu_of plant (Event.Raise d) = target_of (named_in plant d.devhandle d.devino)
cpu_of plant (Event.Load l) = 0
cpu_of plant (Event.Store s) = 0
cpu_of plant (Event.Hit t) = cpu_below t.cpu
