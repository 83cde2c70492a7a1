-- `plants::parts::set_tails` meets its contract: after c turns of the loop the tails of the first c cpus are moved.
use mathlib.Core.Path.{◌≡◌}
use Rattle.plants.proofs.TailLaws.{tailed}
use Rattle.plants.proofs.parts.set_tails.Given as goal

abbrev pub invariant-loop-c : goal.invariant-loop-c
invariant-loop-c l = l.plant ≡ tailed l.fn.plant l.tails l.c
