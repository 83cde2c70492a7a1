-- `partition::shares_before` meets its contract: the first clash among the runs of the host.
use Rattle.std.proofs.Common.{rules, get_or, ◌∙◌}
use Rattle.rules.specs.Kept.{blank_extent}
use Rattle.rules.specs.Image.{run_at, share, shares_before}
use Rattle.partition.specs.Collected.{run_limit, runs_of}
use Rattle.partition.proofs.Pairs.{clash_filled}
use Rattle.partition.proofs.shares_before.Goals as goal

pub returns : goal.returns
unfolding shares_before runs_of
returns c = c.first_clash.ensures (λ i j. share (get_or c.runs-runs.result i blank_extent) (get_or c.runs-runs.result j blank_extent)) (λ i j b u v k. search rules) ∙ clash_filled blank_extent share (run_at c.args.t) run_limit c.runs-runs.result c.runs-runs.ensures
