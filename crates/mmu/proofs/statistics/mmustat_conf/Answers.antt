-- `mmu::statistics::mmustat_conf` meets its contract: each return is the rule's case, by the verdict.
use Rattle.plants.proofs.OutcomeLaws.{statistics_changes}
use Rattle.mmu.proofs.StatisticsLaws.{conf_refused, conf_set}
use Rattle.mmu.proofs.statistics.mmustat_conf.Goals as goal

pub returns-in-Err : goal.returns-in-Err
returns-in-Err c = λ plant o. search (statistics_changes, conf_refused)

pub returns-in-Ok : goal.returns-in-Ok
returns-in-Ok c = λ plant o. search (statistics_changes, conf_set)
