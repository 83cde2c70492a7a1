-- `partition::runs` meets its contract: the closure gives each run at its place.
use Rattle.std.proofs.Common.{rules}
use Rattle.rules.specs.Kept.{blank_extent}
use Rattle.rules.specs.Image.{run_at}
use Rattle.partition.specs.Collected.{run_limit, runs_of}
use Rattle.partition.proofs.Filled.{made}
use Rattle.partition.proofs.runs.Goals as goal

pub returns : goal.returns
unfolding runs_of run_at
returns c = made _ _ (run_at c.args.t) run_limit blank_extent (λ i y d h k. search rules) _ c.from_fn.ensures.items
