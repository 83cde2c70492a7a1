-- `tables::settings::cpus_right` meets its contract: the list's tests are the rule's.
use Rattle.std.proofs.Common.{◌≡◌, arith, length, rules}
use Rattle.memory.specs.Ready.{present}
use Rattle.rules.specs.Limits.{cpu_limit}
use Rattle.rules.specs.Kept.{hollow_cpu}
use Rattle.rules.specs.Real.{valid}
use Rattle.rules.specs.Tables.{cpu_right, cpu_blank}
use Rattle.tables.proofs.settings.cpus_right.Goals as goal

pub returns : goal.returns
returns c =
    let n : length c.args.plant.cpu ≡ cpu_limit = omega arith in
    rw n at (c.list_right.ensures (cpu_right (valid (present c.args.e))) cpu_blank hollow_cpu (λ x r k. search rules) (λ x r k. search rules))
