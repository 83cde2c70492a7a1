-- `print::put_hex` meets its contract: the hex digits of the rules are the digits in base 16.
use Rattle.std.proofs.Common.{arith}
use Rattle.text.proofs.PrintLaws.{hex_room, hex_put}
use Rattle.text.proofs.print.put_hex.Goals as goal

pub put_number-requires : goal.put_number-requires
put_number-requires c = (omega arith, omega arith, hex_room _ (omega arith) _ _ c.requires)

pub returns : goal.returns
returns c = hex_put _ (omega arith) _ _ _ _ c.put_number.ensures
