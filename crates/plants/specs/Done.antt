-- What the code gives back, as an outcome of the rules.
use Rattle.std.specs.Prelude.{[]}
use Rattle.rules.specs.declared.Answer.{Answer}
use Rattle.rules.specs.declared.Plant.{Plant}
use Rattle.rules.specs.Rulings.{Outcome}
use Rattle.plants.specs.declared.change.Done.{Done}
use Rattle.plants.specs.Changes.{plant_after}

-- the answer and the record after, with nothing written
abbrev pub quietly : Plant → Done → Outcome
quietly plant d = record { answer = d.answer; plant = plant_after plant d; writes = [] }

-- an answer, with the record as it was and nothing written
abbrev pub saying : Plant → Answer → Outcome
saying plant answer = record { answer = answer; plant = plant; writes = [] }
