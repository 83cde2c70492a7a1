-- "Which calls exist": the function number picks the group before any argument is read.
use Rattle.std.specs.Prelude.{ℕ, Option, Some, None, leb, eqb, if◌then◌else◌}
use Rattle.rules.specs.Types.{SourceCall, CookieCall, Function, Versions, Plant, Call, EBADTRAP, ENOTSUPPORTED}
use Rattle.rules.specs.Real.{Sight}
use Rattle.rules.specs.Rulings.{Ruling, refused, granted, Outcome, ◌or_refuse◌then◌, ◌grants◌}
use Rattle.rules.specs.Versions.{set_version, get_version}
use Rattle.rules.specs.Queues.{cpu_qconf, cpu_qinfo, cpu_myid}
use Rattle.rules.specs.Mondo.{cpu_mondo_send}
use Rattle.rules.specs.Tsb.{mmu_tsb_ctx0, mmu_tsb_ctxnon0}
use Rattle.rules.specs.Memory.{mem_scrub, mem_sync, mmustat_conf, mmustat_info}
use Rattle.rules.specs.Sources.{intr_devino2sysino, intr, vintr}

-- "Trap 0xff: function 0 set version, 3 get version."
unfoldable pub version_function : ℕ → Option Function
version_function function =
    if eqb function 0 then Some Function.SetVersion else
    if eqb function 3 then Some Function.GetVersion else
    None

-- "Trap 0x80: core group 1: 0x14, 0x15, 0x16, 0x20, 0x21, 0x31, 0x32, 0x42; group 2 at 1.0: 0xa0 to 0xa6, at 2.0: 0xa7 to
-- 0xae; group 0x200: 0x102, 0x103."
unfoldable pub fast_function : ℕ → Option Function
fast_function function =
    if eqb function 0x14 then Some Function.CpuQconf else
    if eqb function 0x15 then Some Function.CpuQinfo else
    if eqb function 0x16 then Some Function.CpuMyid else
    if eqb function 0x20 then Some Function.MmuTsbCtx0 else
    if eqb function 0x21 then Some Function.MmuTsbCtxnon0 else
    if eqb function 0x31 then Some Function.MemScrub else
    if eqb function 0x32 then Some Function.MemSync else
    if eqb function 0x42 then Some Function.CpuMondoSend else
    if eqb function 0xa0 then Some Function.IntrDevino2sysino else
    if eqb function 0xa1 then Some (Function.Sysino SourceCall.GetEnabled) else
    if eqb function 0xa2 then Some (Function.Sysino SourceCall.SetEnabled) else
    if eqb function 0xa3 then Some (Function.Sysino SourceCall.GetState) else
    if eqb function 0xa4 then Some (Function.Sysino SourceCall.SetState) else
    if eqb function 0xa5 then Some (Function.Sysino SourceCall.GetTarget) else
    if eqb function 0xa6 then Some (Function.Sysino SourceCall.SetTarget) else
    if eqb function 0xa7 then Some (Function.Cookie CookieCall.GetCookie) else
    if eqb function 0xa8 then Some (Function.Cookie CookieCall.SetCookie) else
    if eqb function 0xa9 then Some (Function.Cookie (CookieCall.Source SourceCall.GetEnabled)) else
    if eqb function 0xaa then Some (Function.Cookie (CookieCall.Source SourceCall.SetEnabled)) else
    if eqb function 0xab then Some (Function.Cookie (CookieCall.Source SourceCall.GetState)) else
    if eqb function 0xac then Some (Function.Cookie (CookieCall.Source SourceCall.SetState)) else
    if eqb function 0xad then Some (Function.Cookie (CookieCall.Source SourceCall.GetTarget)) else
    if eqb function 0xae then Some (Function.Cookie (CookieCall.Source SourceCall.SetTarget)) else
    if eqb function 0x102 then Some Function.MmustatConf else
    if eqb function 0x103 then Some Function.MmustatInfo else
    None

unfoldable pub function_of : ℕ → ℕ → Option Function
function_of trap function =
    if eqb trap 0xff then version_function function else
    if eqb trap 0x80 then fast_function function else
    None

-- a function whose group has to be negotiated, at any version
abbrev pub negotiated_as : ℕ → Function → Ruling Function
negotiated_as major function = leb 1 major or_refuse EBADTRAP then granted function

-- 0xa0 to 0xa6: "Under 2.0, .. ENOTSUPPORTED (002)"
abbrev pub negotiated_as_one : ℕ → Function → Ruling Function
negotiated_as_one major function =
    leb 1 major or_refuse EBADTRAP then
    eqb major 1 or_refuse ENOTSUPPORTED then
    granted function

-- 0xa7 to 0xae: "under 1.0 .. EBADTRAP"
abbrev pub negotiated_as_two : ℕ → Function → Ruling Function
negotiated_as_two major function = eqb major 2 or_refuse EBADTRAP then granted function

-- "Another trap or function, a group not negotiated, or under 1.0 0xa7 to 0xae: EBADTRAP. Under 2.0, 0xa0 to 0xa6:
-- ENOTSUPPORTED (002)."
unfoldable pub admitted : Versions → Option Function → Ruling Function
admitted v None = refused EBADTRAP
admitted v (Some Function.SetVersion) = granted Function.SetVersion
admitted v (Some Function.GetVersion) = granted Function.GetVersion
admitted v (Some Function.CpuQconf) = negotiated_as v.core Function.CpuQconf
admitted v (Some Function.CpuQinfo) = negotiated_as v.core Function.CpuQinfo
admitted v (Some Function.CpuMyid) = negotiated_as v.core Function.CpuMyid
admitted v (Some Function.CpuMondoSend) = negotiated_as v.core Function.CpuMondoSend
admitted v (Some Function.MmuTsbCtx0) = negotiated_as v.core Function.MmuTsbCtx0
admitted v (Some Function.MmuTsbCtxnon0) = negotiated_as v.core Function.MmuTsbCtxnon0
admitted v (Some Function.MemScrub) = negotiated_as v.core Function.MemScrub
admitted v (Some Function.MemSync) = negotiated_as v.core Function.MemSync
admitted v (Some Function.MmustatConf) = negotiated_as v.statistics Function.MmustatConf
admitted v (Some Function.MmustatInfo) = negotiated_as v.statistics Function.MmustatInfo
admitted v (Some Function.IntrDevino2sysino) = negotiated_as_one v.interrupt Function.IntrDevino2sysino
admitted v (Some (Function.Sysino call)) = negotiated_as_one v.interrupt (Function.Sysino call)
admitted v (Some (Function.Cookie call)) = negotiated_as_two v.interrupt (Function.Cookie call)

-- the rule of each function, with the arguments that it takes
unfoldable pub perform : Sight → Plant → Call → Function → Ruling Outcome
perform sight plant c Function.SetVersion = set_version plant c.arg0 c.arg1
perform sight plant c Function.GetVersion = get_version plant c.arg0
perform sight plant c Function.CpuQconf = cpu_qconf sight.valid plant c.cpu c.arg0 c.arg1 c.arg2
perform sight plant c Function.CpuQinfo = cpu_qinfo plant c.cpu c.arg0
perform sight plant c Function.CpuMyid = cpu_myid plant c.cpu
perform sight plant c Function.CpuMondoSend = cpu_mondo_send sight plant c.cpu c.arg0 c.arg1 c.arg2
perform sight plant c Function.MmuTsbCtx0 = mmu_tsb_ctx0 sight plant c.cpu c.arg0 c.arg1
perform sight plant c Function.MmuTsbCtxnon0 = mmu_tsb_ctxnon0 sight plant c.cpu c.arg0 c.arg1
perform sight plant c Function.MemScrub = mem_scrub sight.valid plant c.arg0 c.arg1
perform sight plant c Function.MemSync = mem_sync sight.valid plant c.arg0 c.arg1
perform sight plant c Function.MmustatConf = mmustat_conf sight.valid plant c.cpu c.arg0
perform sight plant c Function.MmustatInfo = mmustat_info plant c.cpu
perform sight plant c Function.IntrDevino2sysino = intr_devino2sysino plant c.arg0 c.arg1
perform sight plant c (Function.Sysino call) = intr plant call c.arg0 c.arg1
perform sight plant c (Function.Cookie call) = vintr plant call c.arg0 c.arg1 c.arg2

unfoldable pub call : Sight → Plant → Call → Ruling Outcome
call sight plant c =
    admitted plant.versions (function_of c.trap c.function) grants λ function.
    perform sight plant c function
