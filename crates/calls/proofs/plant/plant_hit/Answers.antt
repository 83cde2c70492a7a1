-- `calls::plant::plant_hit` meets its contract: a caller that is not there is told so.
use Rattle.std.proofs.Common.{arith, ◌<◌}
use Rattle.std.proofs.lemmas.Grind.{common_steps}
use Rattle.rules.specs.Host.{plant_rule}
use Rattle.plants.proofs.OutcomeLaws.{quiet_told}
use Rattle.calls.proofs.OwnLaws.{own_hit}
use Rattle.calls.proofs.PlantLaws.{hit_buffer}
use Rattle.calls.proofs.plant.plant_hit.Goals as goal

pub returns-then-from-t : goal.returns-then-from-t
unfolding plant_rule
returns-then-from-t c = quiet_told _ _ _ _ _ _ c.told.ensures (grind (arith, common_steps))

pub tsb_hit-requires-clause-buffer_sound : goal.tsb_hit-requires-clause-buffer_sound
tsb_hit-requires-clause-buffer_sound c =
    let there : c.args.t.cpu < c.args.plant.cpus = omega arith in
    hit_buffer _ _ _ _ _ c.requires.sound there (own_hit _ _ _ c.requires.sound _ _ there c.requires.own_value)
