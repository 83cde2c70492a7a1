-- `guest::read_count` meets its contract: each of its answers is the definition's.
use Rattle.std.proofs.Common.{Some, arith}
use mathlib.Core.Path.{◌≡◌}
use Rattle.std.proofs.lemmas.Result.{err_from_is_err_and}
use Rattle.bits.specs.Field.{field_of}
use Rattle.image.proofs.CountLaws.{count_short, count_low, count_high, count_is}
use Rattle.image.proofs.guest.read_count.Goals as goal
use Rattle.image.proofs.guest.read_count.Goals.{then-v-from-via-then-v-from, then-v-from-via-else-v-from+then-from-v}

pub returns-in_err-v : goal.returns-in_err-v
returns-in_err-v c = let p = err_from_is_err_and c.from_residual.result c.from_residual.ensures.1 in rw (p.1, p.2) (grind (arith, count_short))

pub returns-then-v-from : goal.returns-then-v-from
returns-then-v-from c =
    let v : Some c.in_ok-v.v ≡ field_of c.args.s.now c.args.at c.args.n = grind arith in
    elim c.then-v-from.branch [
      | then-v-from-via-then-v-from w ↦ count_low _ _ _ _ _ _ _ v (omega arith)
      | then-v-from-via-else-v-from+then-from-v w ↦ count_high _ _ _ _ _ _ _ v (omega arith)
    ]

pub returns : goal.returns
returns c = count_is _ _ _ _ _ _ _ (grind arith) (omega arith) (omega arith)
