-- The steps of 0x20 and 0x21 that are functions of their own in the code.
use Rattle.std.specs.Prelude.{ℕ, replicate, Result, Ok, Err}
use Rattle.rules.specs.declared.Plant.{Plant}
use Rattle.rules.specs.declared.Refusal.{Refusal}
use Rattle.rules.specs.declared.Tsbs.{Tsbs}
use Rattle.rules.specs.Limits.{cpu_limit}
use Rattle.rules.specs.Real.{Sight}
use Rattle.rules.specs.Rulings.{Ruling, refused, granted, ◌grants◌, Outcome, done}
use Rattle.rules.specs.Tsb.{descriptors, new_tsbs}
use Rattle.plants.specs.declared.change.Change.{Change}
use Rattle.plants.specs.Changes.{changed_by}

-- the last step of a new list
unfoldable pub listed : Sight → ℕ → ℕ → Ruling Tsbs
listed sight pointer ntsb =
    descriptors sight pointer ntsb grants λ list.
    granted (record { tsbs = ntsb; tsb = list })

-- what the code gives back, as a ruling: a list, or the status that refuses it
unfoldable pub ruled : Result Tsbs Refusal → Ruling Tsbs
ruled (Ok tsbs) = granted tsbs
ruled (Err r) = refused r

-- both calls, by the change that sets the list
unfoldable pub set_tsbs : Sight → Plant → ℕ → ℕ → Change → Ruling Outcome
set_tsbs sight plant ntsb pointer change =
    new_tsbs sight ntsb pointer grants λ tsbs.
    done (changed_by plant tsbs (replicate cpu_limit 0) change)
