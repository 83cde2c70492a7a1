-- What the code of a call that reaches memory gives back, and what it leaves in memory.
use Rattle.std.specs.Prelude.{◌≡◌, List, ℕ}
use Rattle.rules.specs.declared.Extents.{Extents}
use Rattle.rules.specs.declared.Plant.{Plant}
use Rattle.rules.specs.Real.{apply}
use Rattle.rules.specs.Rulings.{Ruling, Outcome, outcome_of}
use Rattle.memory.specs.Ready.{present}
use Rattle.plants.specs.declared.change.Done.{Done}
use Rattle.plants.specs.Changes.{plant_after}

-- the answer, the plant's record and the memory after are what the ruling makes of the record and the memory before
pub record Follows (extents : Extents) (p : Plant) (ruling : Ruling Outcome) (before : List ℕ) (d : Done) (after : List ℕ) : Type 0 where
  pub answer : d.answer ≡ (outcome_of p ruling).answer
  pub plant : plant_after p d ≡ (outcome_of p ruling).plant
  pub memory : after ≡ apply (present extents) before (outcome_of p ruling).writes
