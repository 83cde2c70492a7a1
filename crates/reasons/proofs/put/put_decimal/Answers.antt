-- `put::put_decimal` meets its contract: the digits of a decimal are those in base 10.
use Rattle.std.proofs.Common.{arith}
use Rattle.reasons.proofs.PutLaws.{decimal_room, decimal_put}
use Rattle.reasons.proofs.put.put_decimal.Goals as goal

pub put_number-requires : goal.put_number-requires
put_number-requires c = (omega arith, omega arith, decimal_room _ (omega arith) _ _ (omega arith))

pub returns : goal.returns
returns c = decimal_put _ (omega arith) _ _ _ _ c.put_number.ensures
