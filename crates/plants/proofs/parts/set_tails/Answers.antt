-- `plants::parts::set_tails` meets its contract: after c turns of the loop the tails of the first c cpus are moved.
use Rattle.std.proofs.Common.{arith}
use Rattle.plants.proofs.TailLaws.{tails_none, tails_next, tails_all}
use Rattle.plants.proofs.parts.set_tails.Goals as goal

pub loop-c-init : goal.loop-c-init
loop-c-init c = tails_none c.args.plant.now c.args.tails

pub loop-c-preserved : goal.loop-c-preserved
loop-c-preserved c = tails_next c.args.plant.now c.args.tails c.loop-c.plant c.loop-c.c _ c.loop-c.invariant c.cpu_at_tail.ensures

pub returns : goal.returns
returns c = tails_all _ _ _ _ c.loop-c.invariant (omega arith)
