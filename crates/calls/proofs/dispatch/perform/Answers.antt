-- `calls::dispatch::perform` meets its contract: a call that only answers changes nothing.
use Rattle.std.proofs.Common.{rules, sym}
use Rattle.rules.specs.Calls.{perform}
use Rattle.plants.proofs.OutcomeLaws.{quiet_told}
use Rattle.calls.proofs.dispatch.perform.Goals as goal

pub returns-in-GetVersion : goal.returns-in-GetVersion
unfolding perform
returns-in-GetVersion c = rw c.in-GetVersion.is (quiet_told _ _ _ _ _ _ c.told.ensures c.get_version.ensures)

pub returns-in-CpuQinfo : goal.returns-in-CpuQinfo
unfolding perform
returns-in-CpuQinfo c = rw c.in-CpuQinfo.is (quiet_told _ _ _ _ _ _ c.told-in-CpuQinfo.ensures (c.cpu_qinfo.ensures _ _ (sym (search rules))))

pub returns-in-CpuMyid : goal.returns-in-CpuMyid
unfolding perform
returns-in-CpuMyid c = rw c.in-CpuMyid.is (quiet_told _ _ _ _ _ _ c.told-in-CpuMyid.ensures (c.cpu_myid.ensures _))

pub returns-in-MmustatInfo : goal.returns-in-MmustatInfo
unfolding perform
returns-in-MmustatInfo c = rw c.in-MmustatInfo.is (quiet_told _ _ _ _ _ _ c.told-in-MmustatInfo.ensures (c.mmustat_info.ensures _ _ (sym (search rules))))

pub returns-in-IntrDevino2sysino : goal.returns-in-IntrDevino2sysino
unfolding perform
returns-in-IntrDevino2sysino c = rw c.in-IntrDevino2sysino.is (quiet_told _ _ _ _ _ _ c.told-in-IntrDevino2sysino.ensures c.intr_devino2sysino.ensures)
