-- `tables::settings::sources_right` meets its contract: the list's tests are the rule's.
use Rattle.std.proofs.Common.{◌≡◌, arith, length, rules}
use Rattle.rules.specs.Limits.{source_limit}
use Rattle.rules.specs.Kept.{blank_source}
use Rattle.rules.specs.Tables.{source_right, source_blank}
use Rattle.tables.specs.Sources.{source_right_under}
use Rattle.tables.proofs.settings.sources_right.Goals as goal

pub returns : goal.returns
unfolding source_right source_right_under
returns c =
    let n : length c.args.plant.source ≡ source_limit = omega arith in
    rw n at (c.list_right.ensures (source_right c.args.plant) source_blank blank_source (λ x r k. search rules) (λ x r k. search rules))
