-- Promise: after loading each source's target is cpu 0 (request No. 7), and no event changes one but 0xa6 and 0xae.
use Rattle.std.specs.Prelude.{if◌then◌else◌, Option, Some}
use mathlib.Core.Path.{◌≡◌, refl, ap, ◌∙◌}
use mathlib.Core.Bool.{Bool, true, false, ◌&&◌, ◌||◌, not}
use mathlib.Core.List.{List, [], ◌∷◌}
use mathlib.Core.Logic.{inl, inr}
use Prim.Native.Nat.{ℕ, ◌+◌, ◌*◌, ◌%◌}
use lib.Dec.{leb, ltb, eqb}
use lib.ListN.{get_or, set, get_or-map}
use Rattle.rules.specs.declared.Call.{Call}
use Rattle.rules.specs.declared.CookieCall.{CookieCall}
use Rattle.rules.specs.declared.Event.{Event}
use Rattle.rules.specs.declared.Function.{Function}
use Rattle.rules.specs.declared.Group.{Group}
use Rattle.rules.specs.declared.Guest.{Guest}
use Rattle.rules.specs.declared.Plant.{Plant}
use Rattle.rules.specs.declared.Refusal.TheVariants.{EINVAL, EBADALIGN, ENORADDR, ENOCPU, ENOTSUPPORTED, NoCaller, NoSource}
use Rattle.rules.specs.declared.Source.{Source}
use Rattle.rules.specs.declared.SourceCall.{SourceCall}
use Rattle.rules.specs.declared.Tables.{Tables}
use Rattle.rules.specs.Scan.{some_below}
use Rattle.rules.specs.Kept.{blank_source, hollow_guest, plant_at, extents_of, cpu_at, queue_at, source_at, with_versions, with_enabled, with_state, with_cookie, with_source, with_queue, with_ctx0, with_ctxnon0, with_statistics}
use Rattle.rules.specs.Real.{Sight, sight_of, bytes_from}
use Rattle.rules.specs.Rulings.{Ruling, refused, granted, Outcome}
use Rattle.rules.specs.Versions.{group_of, known, newest, major_of, with_major, disabled, all_disabled, negotiated, set_version, get_version}
use Rattle.rules.specs.Queues.{is_queue, index_of, new_ring, put, forward, ring_of, cpu_qconf, cpu_qinfo, cpu_myid, write_head}
use Rattle.rules.specs.Mondo.{listed_cpu, listed_cpus, passed_over, is_caller, is_stranger, Sent, send_one, send_all, cpu_mondo_send}
use Rattle.rules.specs.Tsb.{new_tsbs, mmu_tsb_ctx0, mmu_tsb_ctxnon0}
use Rattle.rules.specs.Memory.{mem_scrub, mem_sync, store_word, load_word, new_statistics, set_or_clear, mmustat_conf, mmustat_info}
use Rattle.rules.specs.Sources.{found, sysino_of, device_entry, get_enabled, set_enabled, get_state, set_state, get_target, get_cookie, set_cookie, intr_devino2sysino, source_call, cookie_call, intr, vintr, raise_at, raise}
use Rattle.rules.specs.Calls.{function_of, perform}
use Rattle.rules.specs.Host.{HostOutcome, plant_rule, put_back, host_event}
use Rattle.kept.proofs.Lists.{set_either}
use Rattle.promises.specs.Words.{target_at, TargetFunction, SetsTarget}
use Rattle.promises.specs.Machine.{did, machine_of}
use Rattle.promises.specs.Promises.{FirstTargets}
use Rattle.promises.proofs.Door.{at_door}
use Rattle.promises.proofs.Granting.{Granting, by_then, by_if, by_value, by_outcome, by_pages, by_word, by_hit, by_call}
use Rattle.promises.proofs.LoadedTargets.{loaded_zero}

-- a mondo leaves the sources
one_sources : (plant : Plant) (cpu : ℕ) (packet : List ℕ) (mark : ℕ) → (send_one plant cpu packet mark).plant.source ≡ plant.source
unfolding send_one put with_queue
one_sources plant cpu packet mark = go (passed_over cpu) _ _ refl refl
  where
    go : (t : Bool) (x y : Sent) → x.plant.source ≡ plant.source → y.plant.source ≡ plant.source → (if◌then◌else◌ {A = Sent} t x y).plant.source ≡ plant.source
    go true x y e f = e
    go false x y e f = f

sent_sources : (plant : Plant) (list packet : List ℕ) (mark : ℕ) → (send_all plant list packet mark).plant.source ≡ plant.source
unfolding send_all
sent_sources plant [] packet mark = refl
sent_sources plant (cpu ∷ cpus) packet mark = sent_sources (send_one plant cpu packet mark).plant cpus packet (mark + 2) ∙ one_sources plant cpu packet mark

module _ (plant : Plant) where
  -- an outcome in which each source has the target that it had
  abbrev Aimed : Outcome → Type 0
  Aimed o = (i : ℕ) → (source_at o.plant i).target ≡ (source_at plant i).target

  -- a source that is replaced by one of the same target
  replaced : (j : ℕ) (s : Source) → s.target ≡ (source_at plant j).target → (i : ℕ) → (get_or (set plant.source j s) i blank_source).target ≡ (source_at plant i).target
  replaced j s e i = set_either (λ x. x.target ≡ (source_at plant i).target) plant.source j i s blank_source (λ q. rw q e) refl

  -- versions: going to 2.0 takes no source's target
  negotiated_aimed : (group : Option Group) (major i : ℕ) → (source_at (negotiated plant group major) i).target ≡ (source_at plant i).target
  unfolding negotiated all_disabled
  negotiated_aimed group major i = go (ltb (major_of plant.versions group) major && eqb major 2)
    where
      go : (t : Bool) → (source_at (if t then all_disabled (with_versions plant (with_major plant.versions group major)) else with_versions plant (with_major plant.versions group major)) i).target ≡ (source_at plant i).target
      go true = ap (λ (s : Source). s.target) (get_or-map disabled plant.source i blank_source)
      go false = refl

  set_version_aimed : (group major : ℕ) → Granting Aimed (set_version plant group major)
  unfolding set_version
  set_version_aimed group major =
      by_then Aimed (known (group_of group)) EINVAL _
      (by_then Aimed (leb 1 major && leb major (newest (group_of group))) ENOTSUPPORTED _
      (by_then Aimed (leb (major_of plant.versions (group_of group)) major) ENOTSUPPORTED _ (negotiated_aimed (group_of group) major)))

  get_version_aimed : (group : ℕ) → Granting Aimed (get_version plant group)
  unfolding get_version
  get_version_aimed group =
      by_then Aimed (known (group_of group)) EINVAL _
      (by_then Aimed (leb 1 (major_of plant.versions (group_of group))) EINVAL _ (λ i. refl))

  -- queues
  qconf_aimed : (v : ℕ → ℕ → Bool) (cpu queue base n : ℕ) → Granting Aimed (cpu_qconf v plant cpu queue base n)
  unfolding cpu_qconf with_queue
  qconf_aimed v cpu queue base n =
      by_then Aimed (is_queue queue) EINVAL _
      (by_if Aimed (eqb n 0) _ _ (λ i. refl) (by_value Aimed (new_ring v base n) _ (λ ring _ i. refl)))

  head_aimed : (cpu queue value : ℕ) → Granting Aimed (write_head plant cpu queue value)
  unfolding write_head with_queue
  head_aimed cpu queue value =
      by_then Aimed (is_queue queue) EINVAL _
      (by_value Aimed (ring_of (queue_at (cpu_at plant cpu) (index_of queue))) _ (λ ring _.
      by_then Aimed (eqb (value % 64) 0) EBADALIGN _
      (by_then Aimed (ltb value ring.size && leb (forward ring value) (forward ring ring.tail)) EINVAL _ (λ i. refl))))

  mondo_aimed : (sight : Sight) (cpu count list dataAt : ℕ) → Granting Aimed (cpu_mondo_send sight plant cpu count list dataAt)
  unfolding cpu_mondo_send
  mondo_aimed sight cpu count list dataAt =
      by_then Aimed (leb 1 count && leb count 64) EINVAL _
      (by_then Aimed (eqb (dataAt % 64) 0 && eqb (list % 2) 0) EBADALIGN _
      (by_then Aimed (sight.valid dataAt 64 && sight.valid list (2 * count)) ENORADDR _
      (by_then Aimed (not (some_below count (λ i. is_caller cpu (listed_cpu sight.byte list i)))) EINVAL _
      (by_then Aimed (not (some_below count (λ i. is_stranger plant.cpus (listed_cpu sight.byte list i)))) ENOCPU _ (λ i.
      ap (λ (l : List Source). (get_or l i blank_source).target) (sent_sources plant (listed_cpus sight.byte list count) (bytes_from sight.byte dataAt 64) list))))))

  -- 0x102
  statistics_aimed : (cpu : ℕ) (x : Ruling ℕ) → Granting Aimed (set_or_clear plant cpu x)
  unfolding with_statistics
  statistics_aimed cpu (refused r) = λ i. refl
  statistics_aimed cpu (granted a) = λ i. refl

  -- sources: each call but that which sets the target
  source_aimed : (j value : ℕ) (call : SourceCall) → (call ≡ SourceCall.SetTarget → ⊥) → Granting Aimed (source_call plant j value call)
  unfolding source_call get_enabled set_enabled get_state set_state get_target with_source
  source_aimed j value SourceCall.GetEnabled other = λ i. refl
  source_aimed j value SourceCall.SetEnabled other =
      by_then Aimed (leb value 1) EINVAL _
      (by_then Aimed (not (eqb value 1 && (eqb plant.versions.interrupt 2 && eqb (source_at plant j).cookie 0))) EINVAL _ (replaced j (with_enabled (source_at plant j) value) refl))
  source_aimed j value SourceCall.GetState other = λ i. refl
  source_aimed j value SourceCall.SetState other = by_then Aimed (leb value 2) EINVAL _ (replaced j (with_state (source_at plant j) value) refl)
  source_aimed j value SourceCall.GetTarget other = λ i. refl
  source_aimed j value SourceCall.SetTarget other = absurd (other refl)

  cookie_aimed : (j value : ℕ) (call : CookieCall) → (call ≡ CookieCall.Source SourceCall.SetTarget → ⊥) → Granting Aimed (cookie_call plant j value call)
  unfolding cookie_call get_cookie set_cookie with_source
  cookie_aimed j value CookieCall.GetCookie other = λ i. refl
  cookie_aimed j value CookieCall.SetCookie other =
      by_then Aimed (eqb value 0 || ltb 2047 value) EINVAL _
      (by_if Aimed (eqb value 0) _ _ (replaced j (with_enabled (with_cookie (source_at plant j) 0) 0) refl) (replaced j (with_cookie (source_at plant j) value) refl))
  cookie_aimed j value (CookieCall.Source call) other = source_aimed j value call (λ q. other (ap CookieCall.Source q))

  -- a raise, delivered or not
  raise_aimed : (devhandle devino : ℕ) → Granting Aimed (raise plant devhandle devino)
  unfolding raise raise_at put with_queue with_source
  raise_aimed devhandle devino =
      by_value Aimed (found NoSource (sysino_of plant devhandle devino)) _ (λ j _.
      by_if Aimed (eqb (source_at plant j).state 2) _ _ (λ i. refl)
      (by_if Aimed (eqb (source_at plant j).enabled 1 && (put plant (source_at plant j).target 0x3d (device_entry plant j)).room) _ _
      (replaced j (with_state (source_at plant j) 2) refl) (replaced j (with_state (source_at plant j) 1) refl)))

  -- every call but those two
  module _ (sight : Sight) (c : Call) where
    perform_aimed : (f : Function) → (TargetFunction (Some f) → ⊥) → Granting Aimed (perform sight plant c f)
    unfolding perform cpu_qinfo cpu_myid mmu_tsb_ctx0 mmu_tsb_ctxnon0 mem_scrub mem_sync mmustat_conf mmustat_info intr_devino2sysino intr vintr with_ctx0 with_ctxnon0
    perform_aimed Function.SetVersion other = set_version_aimed c.arg0 c.arg1
    perform_aimed Function.GetVersion other = get_version_aimed c.arg0
    perform_aimed Function.CpuQconf other = qconf_aimed sight.valid c.cpu c.arg0 c.arg1 c.arg2
    perform_aimed Function.CpuQinfo other = by_then Aimed (is_queue c.arg0) EINVAL _ (λ i. refl)
    perform_aimed Function.CpuMyid other = λ i. refl
    perform_aimed Function.CpuMondoSend other = mondo_aimed sight c.cpu c.arg0 c.arg1 c.arg2
    perform_aimed Function.MmuTsbCtx0 other = by_value Aimed (new_tsbs sight c.arg0 c.arg1) _ (λ tsbs _ i. refl)
    perform_aimed Function.MmuTsbCtxnon0 other = by_value Aimed (new_tsbs sight c.arg0 c.arg1) _ (λ tsbs _ i. refl)
    perform_aimed Function.MemScrub other = by_pages Aimed sight.valid c.arg0 c.arg1 _ (λ i. refl)
    perform_aimed Function.MemSync other = by_pages Aimed sight.valid c.arg0 c.arg1 _ (λ i. refl)
    perform_aimed Function.MmustatConf other = statistics_aimed c.cpu (new_statistics sight.valid c.arg0)
    perform_aimed Function.MmustatInfo other = λ i. refl
    perform_aimed Function.IntrDevino2sysino other = by_value Aimed (found EINVAL (sysino_of plant c.arg0 c.arg1)) _ (λ j _ i. refl)
    perform_aimed (Function.Sysino k) other =
        by_then Aimed (ltb c.arg0 plant.sources) EINVAL _ (source_aimed c.arg0 c.arg1 k (λ q. other (inl (ap (λ (x : SourceCall). Some (Function.Sysino x)) q))))
    perform_aimed (Function.Cookie k) other =
        by_value Aimed (found EINVAL (sysino_of plant c.arg0 c.arg1)) _ (λ j _.
        by_then Aimed (source_at plant j).cookies ENOTSUPPORTED _ (cookie_aimed j c.arg2 k (λ q. other (inr (ap (λ (x : CookieCall). Some (Function.Cookie x)) q)))))

  event_aimed : (sight : Sight) (event : Event) → (SetsTarget event → ⊥) → Granting Aimed (plant_rule sight plant event)
  unfolding plant_rule load_word store_word
  event_aimed sight (Event.Call c) other = by_then Aimed (ltb c.cpu plant.cpus) NoCaller _ (by_call Aimed sight plant c (λ f e. perform_aimed sight c f (λ q. other (rw e q))))
  event_aimed sight (Event.Head h) other = by_then Aimed (ltb h.cpu plant.cpus) NoCaller _ (head_aimed h.cpu h.queue h.value)
  event_aimed sight (Event.Raise d) other = raise_aimed d.devhandle d.devino
  event_aimed sight (Event.Load l) other = by_word Aimed sight.valid l.address _ (λ i. refl)
  event_aimed sight (Event.Store s) other = by_word Aimed sight.valid s.address _ (λ i. refl)
  event_aimed sight (Event.Hit t) other = by_then Aimed (ltb t.cpu plant.cpus) NoCaller _ (by_hit Aimed sight plant t (λ writes i. refl))

-- The host's tables after: the owner's place holds its plant's outcome, every other place what it held.
module _ (tables : Tables) (memory : List ℕ) (event : Event) (other : SetsTarget event → ⊥) (g i : ℕ) where
  abbrev Same : HostOutcome → Type 0
  Same o = target_at o.tables g i ≡ target_at tables g i

  did_same : (h : ℕ) → Same (put_back tables memory h (did (machine_of tables memory h) event))
  did_same h =
      let plant : Plant = plant_at tables h in
      let sight : Sight = sight_of (extents_of tables h) memory in
      set_either (λ (x : Guest). (source_at x.plant i).target ≡ target_at tables g i) tables.guest h g _ hollow_guest
      (λ q. rw q (by_outcome (Aimed plant) plant (plant_rule sight plant event) (λ r i. refl) (event_aimed plant sight event other) i)) refl

  event_same : Same (host_event tables memory event)
  event_same = at_door Same tables memory event (λ _ _. refl) (λ h _ _ _. did_same h)

pub first_targets : FirstTargets
first_targets = record { at_first_lem = loaded_zero; stays = event_same }
