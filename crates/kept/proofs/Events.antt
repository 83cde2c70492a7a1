-- Every event of a plant leaves a record that keeps the rules.
use Rattle.std.specs.Prelude.{if◌then◌else◌, Option, Some, None}
use mathlib.Core.Path.{◌≡◌, refl}
use mathlib.Core.Bool.{Bool, true, false, ◌&&◌, not}
use Prim.Native.Nat.{ℕ, ◌%◌, ◌≤◌, ◌<◌}
use lib.Dec.{leb, ltb, eqb}
use borrow.Author.Tests.{leb-true, ltb-true, eqb-true}
use Rattle.rules.specs.declared.Call.{Call}
use Rattle.rules.specs.declared.Event.{Event}
use Rattle.rules.specs.declared.Function.{Function}
use Rattle.rules.specs.declared.Plant.{Plant}
use Rattle.rules.specs.declared.Refusal.TheVariants.{EINVAL, EBADALIGN, ENORADDR, EBADTRAP, ENOTSUPPORTED, NoCaller}
use Rattle.rules.specs.Real.{Sight}
use Rattle.rules.specs.Rulings.{Ruling, granted, Outcome, ◌or_refuse◌then◌, ◌grants◌}
use Rattle.rules.specs.Versions.{group_of, known, major_of, get_version}
use Rattle.rules.specs.Queues.{is_queue, cpu_qinfo, cpu_myid, write_head}
use Rattle.rules.specs.Memory.{whole_pages, mem_scrub, mem_sync, whole_word, store_word, load_word, mmustat_info}
use Rattle.rules.specs.Kept.{cpu_at}
use Rattle.rules.specs.Tsb.{is_page_index}
use Rattle.rules.specs.Hits.{is_side, is_context_mark, tsb_hit}
use Rattle.rules.specs.Calls.{function_of, negotiated_as_one, admitted, perform, call}
use Rattle.rules.specs.Tables.{plant_keeps}
use Rattle.rules.specs.Host.{plant_rule}
use Rattle.kept.proofs.Plants.{unchanged}
use Rattle.kept.proofs.Rulings.{Fine, fine_then}
use Rattle.kept.proofs.Queues.{qconf_fine, head_fine, mondo_fine}
use Rattle.kept.proofs.Tsbs.{ctx0_fine, ctxnon0_fine, statistics_fine}
use Rattle.kept.proofs.Sources.{raise_fine, devino_fine, intr_fine, vintr_fine}
use Rattle.kept.proofs.Versions.{set_version_fine}

module _ (sight : Sight) (plant : Plant) (e : plant_keeps sight.valid plant ≡ true) where
  abbrev v : ℕ → ℕ → Bool
  v = sight.valid

  -- calls that leave the record as it was
  pages_fine : (address length : ℕ) (x : Ruling Outcome) → Fine v plant x → Fine v plant (whole_pages v address length x)
  unfolding whole_pages
  pages_fine address length x f =
      let aligned : Bool = eqb (address % 8192) 0 && eqb (length % 8192) 0 in
      fine_then v plant e (not (eqb length 0)) EINVAL (aligned or_refuse EBADALIGN then v address length or_refuse ENORADDR then x) (λ _.
      fine_then v plant e aligned EBADALIGN (v address length or_refuse ENORADDR then x) (λ _.
      fine_then v plant e (v address length) ENORADDR x (λ _. f)))

  word_fine : (address : ℕ) (x : Ruling Outcome) → Fine v plant x → Fine v plant (whole_word v address x)
  unfolding whole_word
  word_fine address x f =
      fine_then v plant e (eqb (address % 8) 0) EBADALIGN (v address 8 or_refuse ENORADDR then x) (λ _.
      fine_then v plant e (v address 8) ENORADDR x (λ _. f))

  scrub_fine : (address length : ℕ) → Fine v plant (mem_scrub v plant address length)
  unfolding mem_scrub
  scrub_fine address length = pages_fine address length _ (unchanged v plant e)

  sync_fine : (address length : ℕ) → Fine v plant (mem_sync v plant address length)
  unfolding mem_sync
  sync_fine address length = pages_fine address length _ (unchanged v plant e)

  store_fine : (address value : ℕ) → Fine v plant (store_word v plant address value)
  unfolding store_word
  store_fine address value = word_fine address _ (unchanged v plant e)

  load_fine : (address : ℕ) → Fine v plant (load_word sight plant address)
  unfolding load_word
  load_fine address = word_fine address _ (unchanged v plant e)

  -- a hit that is counted, or has no buffer
  counted_fine : (t : Bool) (x y : Ruling Outcome) → Fine v plant x → Fine v plant y → Fine v plant (if t then x else y)
  counted_fine true x y f g = f
  counted_fine false x y f g = g

  hit_fine : (cpu side context index ticks : ℕ) → Fine v plant (tsb_hit sight plant cpu side context index ticks)
  unfolding tsb_hit
  hit_fine cpu side context index ticks =
      fine_then v plant e (is_side side) EINVAL _ (λ _.
      fine_then v plant e (is_context_mark context) EINVAL _ (λ _.
      fine_then v plant e (is_page_index index) EINVAL _ (λ _.
      counted_fine (eqb (cpu_at plant cpu).statistics 0) _ _ (unchanged v plant e) (unchanged v plant e))))

  get_version_fine : (group : ℕ) → Fine v plant (get_version plant group)
  unfolding get_version
  get_version_fine group =
      fine_then v plant e (known (group_of group)) EINVAL _ (λ _.
      fine_then v plant e (leb 1 (major_of plant.versions (group_of group))) EINVAL _ (λ _. unchanged v plant e))

  qinfo_fine : (cpu queue : ℕ) → Fine v plant (cpu_qinfo plant cpu queue)
  unfolding cpu_qinfo
  qinfo_fine cpu queue = fine_then v plant e (is_queue queue) EINVAL _ (λ _. unchanged v plant e)

  module _ (c : Call) (there : c.cpu < plant.cpus) where
    -- a function of a group
    group_fine : (t : Bool) (f : Function) → Fine v plant (perform sight plant c f) → Fine v plant ((t or_refuse EBADTRAP then granted f) grants λ f. perform sight plant c f)
    group_fine true f x = x
    group_fine false f x = unchanged v plant e

    -- and of group 2 at 1.0
    sysino_fine : (f : Function) → (1 ≤ plant.versions.interrupt → Fine v plant (perform sight plant c f)) → Fine v plant (negotiated_as_one plant.versions.interrupt f grants λ f. perform sight plant c f)
    sysino_fine f x = go (leb 1 plant.versions.interrupt) refl (eqb plant.versions.interrupt 1)
      where
        go : (t : Bool) → leb 1 plant.versions.interrupt ≡ t → (u : Bool) → Fine v plant ((t or_refuse EBADTRAP then u or_refuse ENOTSUPPORTED then granted f) grants λ f. perform sight plant c f)
        go true p true = x (leb-true 1 plant.versions.interrupt p)
        go true p false = unchanged v plant e
        go false p u = unchanged v plant e

    perform_fine : (f : Option Function) → Fine v plant (admitted plant.versions f grants λ f. perform sight plant c f)
    unfolding admitted perform cpu_myid mmustat_info
    perform_fine None = unchanged v plant e
    perform_fine (Some Function.SetVersion) = set_version_fine v plant e c.arg0 c.arg1
    perform_fine (Some Function.GetVersion) = get_version_fine c.arg0
    perform_fine (Some Function.CpuQconf) = group_fine (leb 1 plant.versions.core) Function.CpuQconf (qconf_fine v plant e c.cpu there c.arg0 c.arg1 c.arg2)
    perform_fine (Some Function.CpuQinfo) = group_fine (leb 1 plant.versions.core) Function.CpuQinfo (qinfo_fine c.cpu c.arg0)
    perform_fine (Some Function.CpuMyid) = group_fine (leb 1 plant.versions.core) Function.CpuMyid (unchanged v plant e)
    perform_fine (Some Function.CpuMondoSend) = group_fine (leb 1 plant.versions.core) Function.CpuMondoSend (mondo_fine sight plant e c.cpu c.arg0 c.arg1 c.arg2)
    perform_fine (Some Function.MmuTsbCtx0) = group_fine (leb 1 plant.versions.core) Function.MmuTsbCtx0 (ctx0_fine sight plant e c.cpu there c.arg0 c.arg1)
    perform_fine (Some Function.MmuTsbCtxnon0) = group_fine (leb 1 plant.versions.core) Function.MmuTsbCtxnon0 (ctxnon0_fine sight plant e c.cpu there c.arg0 c.arg1)
    perform_fine (Some Function.MemScrub) = group_fine (leb 1 plant.versions.core) Function.MemScrub (scrub_fine c.arg0 c.arg1)
    perform_fine (Some Function.MemSync) = group_fine (leb 1 plant.versions.core) Function.MemSync (sync_fine c.arg0 c.arg1)
    perform_fine (Some Function.MmustatConf) = group_fine (leb 1 plant.versions.statistics) Function.MmustatConf (statistics_fine v plant e c.cpu there c.arg0)
    perform_fine (Some Function.MmustatInfo) = group_fine (leb 1 plant.versions.statistics) Function.MmustatInfo (unchanged v plant e)
    perform_fine (Some Function.IntrDevino2sysino) = sysino_fine Function.IntrDevino2sysino (λ _. devino_fine v plant e c.arg0 c.arg1)
    perform_fine (Some (Function.Sysino k)) = sysino_fine (Function.Sysino k) (λ m. intr_fine v plant e k c.arg0 c.arg1 m)
    perform_fine (Some (Function.Cookie k)) = go (eqb plant.versions.interrupt 2) refl
      where
        go : (t : Bool) → eqb plant.versions.interrupt 2 ≡ t → Fine v plant ((t or_refuse EBADTRAP then granted (Function.Cookie k)) grants λ f. perform sight plant c f)
        go true p = vintr_fine v plant e k c.arg0 c.arg1 c.arg2 (eqb-true plant.versions.interrupt 2 p)
        go false p = unchanged v plant e

    call_fine : Fine v plant (call sight plant c)
    unfolding call
    call_fine = perform_fine (function_of c.trap c.function)

  pub plant_fine : (event : Event) → Fine v plant (plant_rule sight plant event)
  unfolding plant_rule
  plant_fine (Event.Call c) = fine_then v plant e (ltb c.cpu plant.cpus) NoCaller (call sight plant c) (λ h. call_fine c (ltb-true c.cpu plant.cpus h))
  plant_fine (Event.Head h) = fine_then v plant e (ltb h.cpu plant.cpus) NoCaller (write_head plant h.cpu h.queue h.value) (λ l. head_fine v plant e h.cpu (ltb-true h.cpu plant.cpus l) h.queue h.value)
  plant_fine (Event.Raise d) = raise_fine v plant e d.devhandle d.devino
  plant_fine (Event.Load l) = load_fine l.address
  plant_fine (Event.Store s) = store_fine s.address s.value
  plant_fine (Event.Hit t) = fine_then v plant e (ltb t.cpu plant.cpus) NoCaller _ (λ _. hit_fine t.cpu t.side t.context t.index t.ticks)
