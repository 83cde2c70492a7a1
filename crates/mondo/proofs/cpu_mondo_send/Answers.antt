-- `mondo::cpu_mondo_send` meets its contract: each return is the rule's case, by the tests on the way.
use mathlib.Core.Path.{refl}
use Rattle.mondo.proofs.ListedLaws.{count_most, data_valid, list_valid, send_refused, send_done}
use Rattle.mondo.proofs.cpu_mondo_send.Goals as goal

pub send_listed-requires : goal.send_listed-requires
send_listed-requires c =
    let f = c.in-Ok.ensures in
    record { sound = c.requires; count_bound = count_most _ c.args.plant _ _ _ _ f refl; count_value = list_valid _ c.args.plant _ _ _ _ f refl; data_value = data_valid _ c.args.plant _ _ _ _ f refl }

pub returns-in-Err : goal.returns-in-Err
returns-in-Err c = send_refused _ _ _ _ _ _ _ _ c.in-Err.ensures _ _ refl c.told.ensures

pub returns-in-Ok : goal.returns-in-Ok
returns-in-Ok c = send_done _ _ _ _ _ _ _ _ c.in-Ok.ensures _ _ refl c.send_listed.ensures
