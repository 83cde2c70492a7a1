-- `mondo::send_listed` meets its contract: each return is the rule's case, by what was read and the tests on the way.
use native.Mathlib.Omega.{arith}
use mathlib.Core.Path.{refl}
use lib.ListN.{take}
use Rattle.std.proofs.lemmas.List.{length-take-le}
use Rattle.mondo.proofs.ListedLaws.{none_strange, listed_refused, listed_sent, listed_left}
use Rattle.mondo.proofs.send_listed.Goals as goal

pub send_all-sent-requires-clause-by_index : goal.send_all-sent-requires-clause-by_index
send_all-sent-requires-clause-by_index c = none_strange (take c.args.count c.read_list-read.result) c.args.cpu c.args.plant _ c.in-Ok.ensures refl

pub returns-then-sent : goal.returns-then-sent
returns-then-sent c = listed_sent _ _ _ _ _ _ _ _ (length-take-le c.args.count c.read_list-read.result (omega arith)) c.read_list-read.ensures _ c.in-Ok.ensures refl _ c.bytes-packet.ensures _ _ _ c.send_all-sent.ensures _ c.if-sent.true c.told_tails.ensures

pub returns-in-Err : goal.returns-in-Err
returns-in-Err c = listed_refused _ _ _ _ _ _ _ _ (length-take-le c.args.count c.read_list-read.result (omega arith)) c.read_list-read.ensures _ c.in-Err.ensures _ _ refl c.told.ensures

pub returns-else-sent : goal.returns-else-sent
returns-else-sent c = listed_left _ _ _ _ _ _ _ _ (length-take-le c.args.count c.read_list-read.result (omega arith)) c.read_list-read.ensures _ c.in-Ok.ensures refl _ c.bytes-packet.ensures _ _ _ c.send_all-sent.ensures _ c.if-sent.false c.told_tails-in-Ok.ensures
