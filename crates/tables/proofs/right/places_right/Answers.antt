-- `tables::right::places_right` meets its contract: the list's tests are the rule's.
use Rattle.std.proofs.Common.{◌≡◌, arith, length, rules}
use Rattle.rules.specs.Limits.{extent_limit}
use Rattle.rules.specs.Kept.{blank_extent}
use Rattle.rules.specs.Image.{extent_right}
use Rattle.rules.specs.Tables.{extent_blank}
use Rattle.tables.proofs.right.places_right.Goals as goal

pub returns : goal.returns
returns c =
    let n : length c.args.e.extent ≡ extent_limit = omega arith in
    rw n at (c.list_right.ensures extent_right extent_blank blank_extent (λ x r k. search rules) (λ x r k. search rules))
