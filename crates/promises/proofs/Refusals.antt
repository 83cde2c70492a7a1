-- Promise: a refusal changes nothing, for every input. The paper says otherwise of EWOULDBLOCK, and of EBADALIGN and ENORADDR
-- where 0x102 answers them, and of no other.
use Rattle.std.specs.Prelude.{if◌then◌else◌, Some}
use mathlib.Core.Path.{◌≡◌, refl, ap, ◌∙◌}
use mathlib.Core.Bool.{Bool, true, false, ◌&&◌, ◌||◌, not}
use mathlib.Core.List.{List, []}
use mathlib.Core.Logic.{inl, inr, ⊎_elim}
use Prim.Native.Nat.{ℕ, ◌*◌, ◌%◌}
use lib.Dec.{leb, ltb, eqb}
use lib.Seq.{set-get_or}
use native.Mathlib.Omega.{arith}
use borrow.Author.Tests.{eqb-false, ne_eqb}
use Rattle.rules.specs.declared.Answer.{Answer}
use Rattle.rules.specs.declared.Answer.TheVariants.{Done, One, Two, Refused}
use Rattle.rules.specs.declared.Call.{Call}
use Rattle.rules.specs.declared.Event.{Event}
use Rattle.rules.specs.declared.CookieCall.{CookieCall}
use Rattle.rules.specs.declared.Function.{Function}
use Rattle.rules.specs.declared.Plant.{Plant}
use Rattle.rules.specs.declared.QueueRecord.{QueueRecord}
use Rattle.rules.specs.declared.Refusal.{Refusal}
use Rattle.rules.specs.declared.Refusal.TheVariants.{EINVAL, EBADALIGN, ENORADDR, ENOCPU, EBADTRAP, ENOTSUPPORTED, EWOULDBLOCK, NoCaller, NoSource}
use Rattle.rules.specs.declared.SourceCall.{SourceCall}
use Rattle.rules.specs.declared.Tables.{Tables}
use Rattle.rules.specs.Scan.{some_below}
use Rattle.rules.specs.Kept.{plant_at, cpu_at, queue_at, source_at, extents_of, hollow_guest}
use Rattle.rules.specs.Real.{Sight, sight_of, bytes_from, apply}
use Rattle.rules.specs.Statuses.{status_of}
use Rattle.rules.specs.Rulings.{Ruling, refused, granted, Outcome, outcome_of, ◌or_refuse◌then◌, ◌grants◌}
use Rattle.rules.specs.Versions.{group_of, known, major_of, newest, set_version, get_version}
use Rattle.rules.specs.Queues.{is_queue, index_of, forward, new_ring, put, ring_of, base_and_size, cpu_qconf, cpu_qinfo, cpu_myid, write_head}
use Rattle.rules.specs.Mondo.{listed_cpu, listed_cpus, is_caller, is_stranger, send_all, cpu_mondo_send}
use Rattle.rules.specs.Tsb.{new_tsbs, mmu_tsb_ctx0, mmu_tsb_ctxnon0}
use Rattle.rules.specs.Memory.{mem_scrub, mem_sync, store_word, load_word, new_statistics, set_or_clear, mmustat_conf, mmustat_info}
use Rattle.rules.specs.Sources.{found, sysino_of, device_entry, get_enabled, set_enabled, get_state, set_state, get_target, set_target, get_cookie, set_cookie, intr_devino2sysino, source_call, cookie_call, intr, vintr, raise_at, raise}
use Rattle.rules.specs.Calls.{function_of, admitted, perform, call}
use Rattle.rules.specs.Host.{HostOutcome, plant_rule, put_back}
use Rattle.promises.specs.Words.{Unchanged, StatisticsCall, Clears, cleared, Excepted}
use Rattle.promises.specs.Machine.{did, machine_of}
use Rattle.promises.specs.Promises.{RefusalChangesNothing, RefusedStatistics}
use Rattle.promises.proofs.Door.{at_door, at_call}
use Rattle.promises.proofs.Granting.{Granting, by_then, by_if, by_value, by_pages, by_word, by_hit, by_call}

-- No rule grants an outcome that answers a refusal r which is not excepted: what answers r is a ruling that refuses.
module _ (r : Refusal) where
  -- an answer other than r
  abbrev Other : Answer → Type 0
  Other Done = Unit {0}
  Other (One v) = Unit {0}
  Other (Two v w) = Unit {0}
  Other (Refused s) = r ≡ s → ⊥

  other_told : (a : Answer) → Other a → a ≡ Refused r → ⊥
  other_told a h e = (rw e at h) refl

  abbrev Apart : Outcome → Type 0
  Apart o = Other o.answer

  -- a ruling that grants no such answer leaves the plant's record and memory if it answers r
  leaves : (plant : Plant) (x : Ruling Outcome) → Granting Apart x → (outcome_of plant x).answer ≡ Refused r → ((outcome_of plant x).plant ≡ plant) × ((outcome_of plant x).writes ≡ [])
  leaves plant (refused s) h e = (refl, refl)
  leaves plant (granted o) h e = absurd (other_told o.answer h e)

  base_apart : (q : QueueRecord) → Other (base_and_size q)
  base_apart QueueRecord.Unset = tt
  base_apart (QueueRecord.Set ring) = tt

  -- what is left of a mondo send is told by EWOULDBLOCK
  sent_apart : (r ≡ EWOULDBLOCK → ⊥) → (t : Bool) → Other (if t then Done else Refused EWOULDBLOCK)
  sent_apart n true = tt
  sent_apart n false = n

  module _ (plant : Plant) where
    -- 0x102: each refusal of its address clears
    conf_apart : (Clears r → ⊥) → (v : ℕ → ℕ → Bool) (cpu address : ℕ) → Granting Apart (mmustat_conf v plant cpu address)
    unfolding mmustat_conf new_statistics
    conf_apart n v cpu address = go (eqb address 0) (eqb (address % 64) 0) (v address 512)
      where
        go : (t u w : Bool) → Granting Apart (set_or_clear plant cpu (if t then granted 0 else u or_refuse EBADALIGN then w or_refuse ENORADDR then granted address))
        go true u w = tt
        go false true true = tt
        go false true false = λ q. n (inr q)
        go false false w = λ q. n (inl q)

    source_apart : (i value : ℕ) (call : SourceCall) → Granting Apart (source_call plant i value call)
    unfolding source_call get_enabled set_enabled get_state set_state get_target set_target
    source_apart i value SourceCall.GetEnabled = tt
    source_apart i value SourceCall.SetEnabled =
        by_then Apart (leb value 1) EINVAL _
        (by_then Apart (not (eqb value 1 && (eqb plant.versions.interrupt 2 && eqb (source_at plant i).cookie 0))) EINVAL _ tt)
    source_apart i value SourceCall.GetState = tt
    source_apart i value SourceCall.SetState = by_then Apart (leb value 2) EINVAL _ tt
    source_apart i value SourceCall.GetTarget = tt
    source_apart i value SourceCall.SetTarget = by_then Apart (ltb value plant.cpus) ENOCPU _ tt

    cookie_apart : (i value : ℕ) (call : CookieCall) → Granting Apart (cookie_call plant i value call)
    unfolding cookie_call get_cookie set_cookie
    cookie_apart i value CookieCall.GetCookie = tt
    cookie_apart i value CookieCall.SetCookie = by_then Apart (eqb value 0 || ltb 2047 value) EINVAL _ (by_if Apart (eqb value 0) _ _ tt tt)
    cookie_apart i value (CookieCall.Source call) = source_apart i value call

    perform_apart : (sight : Sight) (c : Call) (f : Function) → (r ≡ EWOULDBLOCK → ⊥) → ((f ≡ Function.MmustatConf) × Clears r → ⊥) → Granting Apart (perform sight plant c f)
    unfolding perform set_version get_version cpu_qconf cpu_qinfo cpu_myid cpu_mondo_send mmu_tsb_ctx0 mmu_tsb_ctxnon0 mem_scrub mem_sync mmustat_info intr_devino2sysino intr vintr
    perform_apart sight c Function.SetVersion m n =
        by_then Apart (known (group_of c.arg0)) EINVAL _
        (by_then Apart (leb 1 c.arg1 && leb c.arg1 (newest (group_of c.arg0))) ENOTSUPPORTED _
        (by_then Apart (leb (major_of plant.versions (group_of c.arg0)) c.arg1) ENOTSUPPORTED _ tt))
    perform_apart sight c Function.GetVersion m n =
        by_then Apart (known (group_of c.arg0)) EINVAL _
        (by_then Apart (leb 1 (major_of plant.versions (group_of c.arg0))) EINVAL _ tt)
    perform_apart sight c Function.CpuQconf m n =
        by_then Apart (is_queue c.arg0) EINVAL _
        (by_if Apart (eqb c.arg2 0) _ _ tt (by_value Apart (new_ring sight.valid c.arg1 c.arg2) _ (λ ring _. tt)))
    perform_apart sight c Function.CpuQinfo m n = by_then Apart (is_queue c.arg0) EINVAL _ (base_apart (queue_at (cpu_at plant c.cpu) (index_of c.arg0)))
    perform_apart sight c Function.CpuMyid m n = tt
    perform_apart sight c Function.CpuMondoSend m n =
        by_then Apart (leb 1 c.arg0 && leb c.arg0 64) EINVAL _
        (by_then Apart (eqb (c.arg2 % 64) 0 && eqb (c.arg1 % 2) 0) EBADALIGN _
        (by_then Apart (sight.valid c.arg2 64 && sight.valid c.arg1 (2 * c.arg0)) ENORADDR _
        (by_then Apart (not (some_below c.arg0 (λ i. is_caller c.cpu (listed_cpu sight.byte c.arg1 i)))) EINVAL _
        (by_then Apart (not (some_below c.arg0 (λ i. is_stranger plant.cpus (listed_cpu sight.byte c.arg1 i)))) ENOCPU _
        (sent_apart m (send_all plant (listed_cpus sight.byte c.arg1 c.arg0) (bytes_from sight.byte c.arg2 64) c.arg1).all)))))
    perform_apart sight c Function.MmuTsbCtx0 m n = by_value Apart (new_tsbs sight c.arg0 c.arg1) _ (λ tsbs _. tt)
    perform_apart sight c Function.MmuTsbCtxnon0 m n = by_value Apart (new_tsbs sight c.arg0 c.arg1) _ (λ tsbs _. tt)
    perform_apart sight c Function.MemScrub m n = by_pages Apart sight.valid c.arg0 c.arg1 _ tt
    perform_apart sight c Function.MemSync m n = by_pages Apart sight.valid c.arg0 c.arg1 _ tt
    perform_apart sight c Function.MmustatConf m n = conf_apart (λ k. n (refl, k)) sight.valid c.cpu c.arg0
    perform_apart sight c Function.MmustatInfo m n = tt
    perform_apart sight c Function.IntrDevino2sysino m n = by_value Apart (found EINVAL (sysino_of plant c.arg0 c.arg1)) _ (λ i _. tt)
    perform_apart sight c (Function.Sysino k) m n = by_then Apart (ltb c.arg0 plant.sources) EINVAL _ (source_apart c.arg0 c.arg1 k)
    perform_apart sight c (Function.Cookie k) m n =
        by_value Apart (found EINVAL (sysino_of plant c.arg0 c.arg1)) _ (λ i _.
        by_then Apart (source_at plant i).cookies ENOTSUPPORTED _ (cookie_apart i c.arg2 k))

    event_apart : (sight : Sight) (event : Event) → (Excepted event r → ⊥) → Granting Apart (plant_rule sight plant event)
    unfolding plant_rule write_head raise raise_at load_word store_word
    event_apart sight (Event.Call c) n =
        by_then Apart (ltb c.cpu plant.cpus) NoCaller _
        (by_call Apart sight plant c (λ f e. perform_apart sight c f (λ q. n (inl q)) (λ k. n (inr (e ∙ ap Some k.0, k.1)))))
    event_apart sight (Event.Head h) n =
        by_then Apart (ltb h.cpu plant.cpus) NoCaller _
        (by_then Apart (is_queue h.queue) EINVAL _
        (by_value Apart (ring_of (queue_at (cpu_at plant h.cpu) (index_of h.queue))) _ (λ ring _.
        by_then Apart (eqb (h.value % 64) 0) EBADALIGN _
        (by_then Apart (ltb h.value ring.size && leb (forward ring h.value) (forward ring ring.tail)) EINVAL _ tt))))
    event_apart sight (Event.Raise d) n =
        by_value Apart (found NoSource (sysino_of plant d.devhandle d.devino)) _ (λ i _.
        by_if Apart (eqb (source_at plant i).state 2) _ _ tt
        (by_if Apart (eqb (source_at plant i).enabled 1 && (put plant (source_at plant i).target 0x3d (device_entry plant i)).room) _ _ tt tt))
    event_apart sight (Event.Load l) n = by_word Apart sight.valid l.address _ tt
    event_apart sight (Event.Store s) n = by_word Apart sight.valid s.address _ tt
    event_apart sight (Event.Hit t) n = by_then Apart (ltb t.cpu plant.cpus) NoCaller _ (by_hit Apart sight plant t (λ writes. tt))

-- a guest's outcome that leaves its record and writes nothing leaves the host
pub puts_nothing : (tables : Tables) (memory : List ℕ) (g : ℕ) (o : Outcome) → o.plant ≡ plant_at tables g → o.writes ≡ [] → Unchanged tables memory (put_back tables memory g o)
unfolding apply
puts_nothing tables memory g o p w = rw (p, w) (ap (λ l. record { guests = tables.guests; guest = l }) (set-get_or tables.guest g hollow_guest), refl)

-- For every tables, memory and event, an answer that is a refusal leaves the tables and every byte of memory as they were, if it
-- is not excepted.
pub refusal_changes_nothing : RefusalChangesNothing
refusal_changes_nothing tables memory event r other =
    at_door (λ o. o.answer ≡ Refused r → Unchanged tables memory o) tables memory event (λ _ _ e. (refl, refl)) (λ g _ _ _ e.
    let plant : Plant = plant_at tables g in
    let sight : Sight = sight_of (extents_of tables g) memory in
    let s = leaves r plant (plant_rule sight plant event) (event_apart r plant sight event other) e in
    puts_nothing tables memory g (did (machine_of tables memory g) event) s.0 s.1)

-- What the two excepted of 0x102 do.
module _ (tables : Tables) (memory : List ℕ) (c : Call) (r : Refusal) (clears : Clears r) where
  abbrev plant : Plant
  plant = plant_at tables c.guest

  -- an outcome that clears the statistics address and nothing else, if it answers r
  abbrev Clearing : HostOutcome → Type 0
  Clearing o = o.answer ≡ Refused r → (o.tables ≡ cleared tables c) × (o.memory ≡ memory)

  -- the plant's ruling, put back
  abbrev given : Ruling Outcome → HostOutcome
  given x = put_back tables memory c.guest (outcome_of plant x)

  -- no other refusal clears: their numbers differ
  never : (s : Refusal) → eqb (status_of s) 8 ≡ false → eqb (status_of s) 2 ≡ false → Refused s ≡ Refused r → ⊥
  unfolding status_of
  never s align range e =
      let same : s ≡ r = cc in
      ⊎_elim (λ q. eqb-false (status_of s) 8 align (ap status_of (same ∙ q))) (λ q. eqb-false (status_of s) 2 range (ap status_of (same ∙ q))) clears

  conf_clearing : (x : Ruling ℕ) → Clearing (given (set_or_clear plant c.cpu x))
  unfolding apply
  conf_clearing (refused s) e = (refl, refl)
  conf_clearing (granted a) e = absurd (other_told r _ tt e)

  call_clearing : (sight : Sight) → StatisticsCall (Event.Call c) → Clearing (given (plant_rule sight plant (Event.Call c)))
  unfolding status_of plant_rule call admitted perform mmustat_conf
  call_clearing sight q = rw q (go (ltb c.cpu plant.cpus) (leb 1 plant.versions.statistics))
    where
      go : (t u : Bool) → Clearing (given (t or_refuse NoCaller then (u or_refuse EBADTRAP then granted Function.MmustatConf) grants λ f. perform sight plant c f))
      go true true = conf_clearing (new_statistics sight.valid c.arg0)
      go true false = λ e. absurd (never EBADTRAP refl refl e)
      go false u = λ e. absurd (never NoCaller refl refl e)

-- EBADALIGN and ENORADDR of 0x102 set the statistics address of the calling cpu to 0, and change nothing else.
pub refused_statistics : RefusedStatistics
refused_statistics tables memory c r q clears =
    at_call (Clearing tables memory c r clears) tables memory c
    (λ s h e. absurd (never tables memory c r clears s (ne_eqb (status_of s) 8 (λ w. omega arith)) (ne_eqb (status_of s) 2 (λ w. omega arith)) e))
    (call_clearing tables memory c r clears (sight_of (extents_of tables c.guest) memory) q)
