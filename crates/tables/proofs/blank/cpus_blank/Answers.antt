-- `tables::blank::cpus_blank` meets its contract: each cpu passes the test.
use mathlib.Core.Path.{◌∙◌}
use Rattle.std.proofs.Common.{◌≡◌, arith, length, rules}
use Rattle.rules.specs.Limits.{cpu_limit}
use Rattle.rules.specs.Kept.{hollow_cpu}
use Rattle.rules.specs.Tables.{cpu_blank}
use Rattle.tables.proofs.Parts.{all_items}
use Rattle.tables.proofs.blank.cpus_blank.Goals as goal

pub returns : goal.returns
returns c =
    let n : length c.args.cpu ≡ cpu_limit = omega arith in
    c.every.ensures cpu_blank (λ x r k. search rules) ∙ rw n at (all_items hollow_cpu cpu_blank c.args.cpu)
