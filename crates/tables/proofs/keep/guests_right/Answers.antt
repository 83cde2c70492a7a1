-- `tables::keep::guests_right` meets its contract: the list's tests are the rule's.
use Rattle.std.proofs.Common.{◌≡◌, arith, length, rules}
use Rattle.rules.specs.Limits.{guest_limit}
use Rattle.rules.specs.Kept.{hollow_guest}
use Rattle.rules.specs.Tables.{guest_keeps, guest_blank}
use Rattle.tables.proofs.keep.guests_right.Goals as goal

pub returns : goal.returns
returns c =
    let n : length c.args.tables.guest ≡ guest_limit = omega arith in
    rw n at (c.list_right.ensures guest_keeps guest_blank hollow_guest (λ x r k. search rules) (λ x r k. search rules))
