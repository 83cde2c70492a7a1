-- `calls::plant::plant_call` meets its contract: a caller that is not there is told so.
use Rattle.std.proofs.Common.{arith}
use Rattle.std.proofs.lemmas.Grind.{common_steps}
use Rattle.rules.specs.Host.{plant_rule}
use Rattle.plants.proofs.OutcomeLaws.{quiet_told}
use Rattle.calls.proofs.plant.plant_call.Goals as goal

pub returns-then-from-c : goal.returns-then-from-c
unfolding plant_rule
returns-then-from-c c = quiet_told _ _ _ _ _ _ c.told.ensures (grind (arith, common_steps))
