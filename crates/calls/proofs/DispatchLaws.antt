-- From what each call gives to what the rule of its function says.
use Rattle.std.proofs.Common.{Some, None, Ok, Err}
use mathlib.Core.Path.{◌≡◌, refl, sym}
use mathlib.Core.Bool.{true}
use mathlib.Core.List.{List}
use Prim.Native.Nat.{ℕ}
use lib.Dec.{leb, eqb}
use Rattle.rules.specs.declared.Answer.TheVariants.{Refused}
use Rattle.rules.specs.declared.Call.{Call}
use Rattle.rules.specs.declared.Extents.{Extents}
use Rattle.rules.specs.declared.Function.{Function}
use Rattle.rules.specs.declared.Plant.{Plant}
use Rattle.rules.specs.declared.Refusal.{Refusal}
use Rattle.rules.specs.declared.Refusal.TheVariants.{EBADTRAP, ENOTSUPPORTED}
use Rattle.rules.specs.declared.Versions.{Versions}
use Rattle.rules.specs.Real.{Sight}
use Rattle.rules.specs.Rulings.{granted, ◌or_refuse◌then◌}
use Rattle.rules.specs.Calls.{function_of, negotiated_as, negotiated_as_one, admitted, perform, call}
use Rattle.records.specs.Verdict.{verdict_of}
use Rattle.records.proofs.Told.{told_refused, told_then}
use Rattle.plants.specs.declared.change.Change.{Change}
use Rattle.plants.specs.declared.change.Done.{Done}
use Rattle.plants.specs.Changes.{done_by}
use Rattle.plants.specs.Follows.{Follows}
use Rattle.plants.proofs.OutcomeLaws.{quiet_told}

-- a function that is admitted is granted as it is
admitted_group : (major : ℕ) (f : Function) → verdict_of (negotiated_as major f) ≡ Ok tt → negotiated_as major f ≡ granted f
admitted_group major f e = rw (told_then (leb 1 major) EBADTRAP (granted f) e)

admitted_one : (major : ℕ) (f : Function) → verdict_of (negotiated_as_one major f) ≡ Ok tt → negotiated_as_one major f ≡ granted f
admitted_one major f e =
    let a : leb 1 major ≡ true = told_then (leb 1 major) EBADTRAP (eqb major 1 or_refuse ENOTSUPPORTED then granted f) e in
    let b : eqb major 1 ≡ true = told_then (eqb major 1) ENOTSUPPORTED (granted f) (rw a at e) in
    rw (a, b)

pub admitted_itself : (v : Versions) (f : Function) → verdict_of (admitted v (Some f)) ≡ Ok tt → admitted v (Some f) ≡ granted f
unfolding admitted
admitted_itself v Function.SetVersion e = refl
admitted_itself v Function.GetVersion e = refl
admitted_itself v Function.CpuQconf e = admitted_group v.core Function.CpuQconf e
admitted_itself v Function.CpuQinfo e = admitted_group v.core Function.CpuQinfo e
admitted_itself v Function.CpuMyid e = admitted_group v.core Function.CpuMyid e
admitted_itself v Function.CpuMondoSend e = admitted_group v.core Function.CpuMondoSend e
admitted_itself v Function.MmuTsbCtx0 e = admitted_group v.core Function.MmuTsbCtx0 e
admitted_itself v Function.MmuTsbCtxnon0 e = admitted_group v.core Function.MmuTsbCtxnon0 e
admitted_itself v Function.MemScrub e = admitted_group v.core Function.MemScrub e
admitted_itself v Function.MemSync e = admitted_group v.core Function.MemSync e
admitted_itself v Function.MmustatConf e = admitted_group v.statistics Function.MmustatConf e
admitted_itself v Function.MmustatInfo e = admitted_group v.statistics Function.MmustatInfo e
admitted_itself v Function.IntrDevino2sysino e = admitted_one v.interrupt Function.IntrDevino2sysino e
admitted_itself v (Function.Sysino call) e = admitted_one v.interrupt (Function.Sysino call) e
admitted_itself v (Function.Cookie call) e = rw (told_then (eqb v.interrupt 2) EBADTRAP (granted (Function.Cookie call)) e)

-- a call of no function
pub call_unknown : (extents : Extents) (plant : Plant) (s : Sight) (c : Call) (m : List ℕ) (d : Done) → None ≡ function_of c.trap c.function → d ≡ done_by (Refused EBADTRAP) Change.Nothing → Follows extents plant (call s plant c) m d m
unfolding call admitted
call_unknown extents plant s c m d p g = quiet_told extents plant (call s plant c) m d (Refused EBADTRAP) g (rw (← p))

-- a call whose function may not be called, and one whose function may
module _ (extents : Extents) (plant : Plant) (s : Sight) (c : Call) (m : List ℕ) (d : Done) (f : Function) (p : Some f ≡ function_of c.trap c.function) where
  pub call_refused : (r : Refusal) → Err r ≡ verdict_of (admitted plant.versions (Some f)) → d ≡ done_by (Refused r) Change.Nothing → Follows extents plant (call s plant c) m d m
  unfolding call
  call_refused r q g = quiet_told extents plant (call s plant c) m d (Refused r) g (rw (← p, told_refused (admitted plant.versions (Some f)) r (sym q)))

  pub call_performed : (after : List ℕ) → Ok tt ≡ verdict_of (admitted plant.versions (Some f)) → Follows extents plant (perform s plant c f) m d after → Follows extents plant (call s plant c) m d after
  unfolding call
  call_performed after q g = rw (← p, admitted_itself plant.versions f (sym q)) g
