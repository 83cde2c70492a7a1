-- `tables::blank::sources_blank` meets its contract: each source passes the test.
use mathlib.Core.Path.{◌∙◌}
use Rattle.std.proofs.Common.{◌≡◌, arith, length, rules}
use Rattle.rules.specs.Limits.{source_limit}
use Rattle.rules.specs.Kept.{blank_source}
use Rattle.rules.specs.Tables.{source_blank}
use Rattle.tables.proofs.Parts.{all_items}
use Rattle.tables.proofs.blank.sources_blank.Goals as goal

pub returns : goal.returns
returns c =
    let n : length c.args.source ≡ source_limit = omega arith in
    c.every.ensures source_blank (λ x r k. search rules) ∙ rw n at (all_items blank_source source_blank c.args.source)
