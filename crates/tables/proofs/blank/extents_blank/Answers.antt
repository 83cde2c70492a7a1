-- `tables::blank::extents_blank` meets its contract: each extent passes the test.
use mathlib.Core.Path.{◌∙◌}
use Rattle.std.proofs.Common.{◌≡◌, arith, length, rules}
use Rattle.rules.specs.Limits.{extent_limit}
use Rattle.rules.specs.Kept.{blank_extent}
use Rattle.rules.specs.Tables.{extent_blank, extents_blank}
use Rattle.tables.proofs.Parts.{all_items}
use Rattle.tables.proofs.blank.extents_blank.Goals as goal

pub returns : goal.returns
unfolding extents_blank
returns c =
    let n : length c.args.e.extent ≡ extent_limit = omega arith in
    rw (c.every.ensures extent_blank (λ x r k. search rules) ∙ rw n at (all_items blank_extent extent_blank c.args.e.extent))
