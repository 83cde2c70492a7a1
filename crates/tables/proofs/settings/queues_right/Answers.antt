-- `tables::settings::queues_right` meets its contract: each queue's record passes the test.
use mathlib.Core.Path.{◌∙◌}
use Rattle.std.proofs.Common.{◌≡◌, arith, length, rules}
use Rattle.memory.specs.Ready.{present}
use Rattle.rules.specs.declared.Queue.{Queue}
use Rattle.rules.specs.Limits.{queue_limit}
use Rattle.rules.specs.Kept.{blank_queue}
use Rattle.rules.specs.Real.{valid}
use Rattle.rules.specs.Tables.{record_right}
use Rattle.tables.proofs.Parts.{all_items}
use Rattle.tables.proofs.settings.queues_right.Goals as goal

pub returns : goal.returns
returns c =
    let n : length c.args.queues ≡ queue_limit = omega arith in
    let right = λ (u : Queue). record_right (valid (present c.args.e)) u.held in
    c.every.ensures right (λ x r k. search rules) ∙ rw n at (all_items blank_queue right c.args.queues)
