-- `calls::plant::plant_head` meets its contract: a caller that is not there is told so.
use Rattle.std.proofs.Common.{arith, ◌<◌}
use Rattle.std.proofs.lemmas.Grind.{common_steps}
use Rattle.rules.specs.Host.{plant_rule}
use Rattle.plants.proofs.OutcomeLaws.{quiet_told}
use Rattle.calls.proofs.OwnLaws.{own_head}
use Rattle.calls.proofs.PlantLaws.{head_places}
use Rattle.calls.proofs.plant.plant_head.Goals as goal

pub returns-then-from-h : goal.returns-then-from-h
unfolding plant_rule
returns-then-from-h c = quiet_told _ _ _ _ _ _ c.told.ensures (grind (arith, common_steps))

pub write_head-requires : goal.write_head-requires
write_head-requires c =
    let there : c.args.h.cpu < c.args.plant.cpus = omega arith in
    (omega (arith, c.requires.sound.cpus), head_places _ _ _ _ _ _ c.requires.sound there (own_head _ _ _ c.requires.sound _ _ there c.requires.own_value))
