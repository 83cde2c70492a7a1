-- `tables::settings::tsbs_right` meets its contract: the list's tests are the rule's.
use Rattle.std.proofs.Common.{◌≡◌, arith, length, rules}
use Rattle.rules.specs.Limits.{tsb_limit}
use Rattle.rules.specs.Kept.{blank_tsb}
use Rattle.rules.specs.Real.{valid}
use Rattle.memory.specs.Ready.{present}
use Rattle.rules.specs.Rulings.{accepts}
use Rattle.rules.specs.Tsb.{judged_tsb}
use Rattle.rules.specs.Tables.{tsb_blank, tsbs_right}
use Rattle.records.proofs.Told.{accepts_is}
use Rattle.tables.proofs.settings.tsbs_right.Goals as goal

pub returns : goal.returns
unfolding tsbs_right
returns c =
    let n : length c.args.tsbs.tsb ≡ tsb_limit = omega arith in
    rw n at (c.list_right.ensures (λ t. accepts (judged_tsb (valid (present c.args.e)) t)) tsb_blank blank_tsb (λ x r k. rw (accepts_is) (search rules)) (λ x r k. search rules))
