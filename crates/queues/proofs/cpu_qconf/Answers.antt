-- `queues::cpu_qconf` meets its contract: a ring that the rule refuses is refused by its status.
use Rattle.std.proofs.Common.{sym, ◌∙◌, arith}
use Rattle.std.proofs.lemmas.Grind.{common_steps}
use Rattle.rules.specs.Queues.{cpu_qconf}
use Rattle.records.proofs.Told.{told_refused}
use Rattle.plants.proofs.OutcomeLaws.{outcomes}
use Rattle.queues.specs.Places.{place_of}
use Rattle.queues.proofs.cpu_qconf.Goals as goal

pub returns-in-Err : goal.returns-in-Err
unfolding cpu_qconf place_of
returns-in-Err c = grind (arith, common_steps, outcomes, told_refused _ _ (sym c.judge_ring.ensures ∙ c.in-Err.is), c.in-Some.is, c.place_of.ensures)
