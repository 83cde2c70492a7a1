-- The tails of the 0x3c rings as a list: what the record with such tails holds, and what a store in the list makes of it.
use Rattle.std.proofs.Common.{Some, None}
use Rattle.std.proofs.lemmas.List.{ext_get_or, length-map, get_or-map as get_or_mapped}
use mathlib.Core.Path.{◌≡◌, refl, sym, ap, ◌∙◌, subst}
use mathlib.Core.Bool.{Bool, true, false}
use mathlib.Core.List.{List, [], ◌∷◌, map}
use Prim.Native.Nat.{ℕ, ◌≤◌, ◌<◌}
use native.Mathlib.Omega.{arith}
use lib.ListN.{length, get_or, set, take, get_or-map}
use lib.Seq.{set-get_or, set-set, get_or-set_same, get_or-set_other, take_all}
use Rattle.rules.specs.declared.Cpu.{Cpu}
use Rattle.rules.specs.declared.Extents.{Extents}
use Rattle.rules.specs.declared.Plant.{Plant}
use Rattle.rules.specs.declared.Queue.{Queue}
use Rattle.rules.specs.declared.QueueRecord.{QueueRecord}
use Rattle.rules.specs.Kept.{blank_queue, hollow_cpu, cpu_at, queue_at, cpu_with_queue, with_queue, with_tail}
use Rattle.rules.specs.Real.{valid}
use Rattle.rules.specs.Queues.{has_room, PutIn, put_in}
use Rattle.rules.specs.Mondo.{passed_over, send_one}
use Rattle.memory.specs.Ready.{present}
use Rattle.records.specs.Sound.{RecordSound}
use Rattle.plants.specs.Changes.{at_tail, cpu_at_tail, map_first, with_tails}
use Rattle.plants.specs.Put.{PutsIn, HeldSound}
use Rattle.plants.proofs.PutLaws.{puts_none, puts_some, put_full}
use Rattle.plants.proofs.MapLaws.{map_read, map_store, map_same}
use Rattle.mondo.specs.Steps.{ring_in, rings_of, tail_in, tails_of, tail_of, send_in, Told, Sends}
use Rattle.mondo.proofs.MondoLaws.{one_plant}

-- one cpu's record
tail_own : (held : QueueRecord) → at_tail held (tail_of held) ≡ held
unfolding at_tail tail_of
tail_own QueueRecord.Unset = refl
tail_own (QueueRecord.Set ring) = refl

module _ (cpu : Cpu) where
  cpu_own : cpu_at_tail cpu (tail_of (queue_at cpu 0)) ≡ cpu
  unfolding cpu_at_tail
  cpu_own =
      ap (cpu_with_queue cpu 0) (tail_own (queue_at cpu 0))
      ∙ (λ i. record { queue = set-get_or cpu.queue 0 blank_queue i; ctx0 = cpu.ctx0; ctxnon0 = cpu.ctxnon0; statistics = cpu.statistics })

  cpu_read : (t : ℕ) → queue_at (cpu_at_tail cpu t) 0 ≡ at_tail (queue_at cpu 0) t
  unfolding cpu_at_tail at_tail
  cpu_read t = go cpu.queue
    where
      go : (l : List Queue) → (get_or (set l 0 (record { held = at_tail (get_or l 0 blank_queue).held t })) 0 blank_queue).held ≡ at_tail (get_or l 0 blank_queue).held t
      go [] = refl
      go (x ∷ l) = refl

  cpu_store : (s t : ℕ) → cpu_with_queue (cpu_at_tail cpu s) 0 (at_tail (queue_at cpu 0) t) ≡ cpu_at_tail cpu t
  unfolding cpu_at_tail
  cpu_store s t = λ i. record { queue = set-set cpu.queue 0 (record { held = at_tail (queue_at cpu 0) s }) (record { held = at_tail (queue_at cpu 0) t }) i; ctx0 = cpu.ctx0; ctxnon0 = cpu.ctxnon0; statistics = cpu.statistics }

abbrev tail_at : List ℕ → ℕ → Cpu → Cpu
tail_at l c cpu = cpu_at_tail cpu (get_or l c 0)

module _ (plant : Plant) where
  abbrev with_cpus : List Cpu → Plant
  with_cpus l = record { versions = plant.versions; cpus = plant.cpus; cpu = l; sources = plant.sources; source = plant.source }

  -- a cpu's 0x3c queue in the list of them
  ring_at : (rings : List Queue) (c : ℕ) → rings ≡ rings_of plant → (get_or rings c blank_queue).held ≡ queue_at (cpu_at plant c) 0
  unfolding rings_of
  ring_at rings c e = rw e (ap (λ (q : Queue). q.held) (get_or-map ring_in plant.cpu c hollow_cpu))

  tail_at_lem : (rings : List Queue) (c : ℕ) → rings ≡ rings_of plant → get_or (tails_of rings) c 0 ≡ tail_of (queue_at (cpu_at plant c) 0)
  unfolding tails_of tail_of
  tail_at_lem rings c e = get_or-map tail_in rings c blank_queue ∙ ap tail_of (ring_at rings c e)

  -- the rings' own tails leave the record as it was
  pub tails_own : (rings : List Queue) (tails : List ℕ) → rings ≡ rings_of plant → tails ≡ tails_of rings → with_tails plant tails ≡ plant
  unfolding with_tails
  tails_own rings tails e t = rw t (ap with_cpus (map_same (tail_at (tails_of rings)) hollow_cpu plant.cpus plant.cpu (λ i _. ap (cpu_at_tail (cpu_at plant i)) (tail_at_lem rings i e) ∙ cpu_own (cpu_at plant i))))

module _ (plant : Plant) (tails : List ℕ) where
  module _ (c : ℕ) (h : c < plant.cpus) where
    cpu_there : cpu_at (with_tails plant tails) c ≡ cpu_at_tail (cpu_at plant c) (get_or tails c 0)
    unfolding with_tails cpu_at_tail
    cpu_there = map_read (tail_at tails) hollow_cpu plant.cpus c plant.cpu (λ i. refl) h

    ring_there : queue_at (cpu_at (with_tails plant tails) c) 0 ≡ at_tail (queue_at (cpu_at plant c) 0) (get_or tails c 0)
    ring_there = ap (λ (u : Cpu). queue_at u 0) cpu_there ∙ cpu_read (cpu_at plant c) (get_or tails c 0)

    -- a tail stored in the list is that ring's record stored
    ring_stored : (t : ℕ) → c < length tails → with_tails plant (set tails c t) ≡ with_queue (with_tails plant tails) c 0 (at_tail (queue_at (cpu_at plant c) 0) t)
    unfolding with_tails with_queue
    ring_stored t k =
        let held : QueueRecord = at_tail (queue_at (cpu_at plant c) 0) t in
        let new : cpu_at_tail (cpu_at plant c) (get_or (set tails c t) c 0) ≡ cpu_with_queue (cpu_at (with_tails plant tails) c) 0 held =
        ap (cpu_at_tail (cpu_at plant c)) (get_or-set_same tails c t 0 k)
        ∙ sym (cpu_store (cpu_at plant c) (get_or tails c 0) t)
        ∙ ap (λ (u : Cpu). cpu_with_queue u 0 held) (sym cpu_there) in
        ap (with_cpus plant) (
        map_store (tail_at tails) (tail_at (set tails c t)) hollow_cpu plant.cpus c plant.cpu (λ i x n. ap (cpu_at_tail x) (get_or-set_other tails c i t 0 n)) h
        ∙ ap (set (map_first (tail_at tails) plant.cpus plant.cpu) c) new
        )

-- what is put into a ring moves its tail and nothing else
put_moves : (held : QueueRecord) (t : ℕ) (packet : List ℕ) → (put_in (at_tail held t) packet).held ≡ at_tail held (tail_of (put_in (at_tail held t) packet).held)
unfolding put_in at_tail tail_of
put_moves QueueRecord.Unset t packet = refl
put_moves (QueueRecord.Set ring) t packet = go (has_room (with_tail ring t)) refl
  where
    go : (b : Bool) → has_room (with_tail ring t) ≡ b → (put_in (at_tail (QueueRecord.Set ring) t) packet).held ≡ at_tail (QueueRecord.Set ring) (tail_of (put_in (at_tail (QueueRecord.Set ring) t) packet).held)
    go true e = rw e refl
    go false e = rw e refl

-- the packet to one cpu of the list, whose ring is taken with its tail as it is by then
module _ (extents : Extents) (plant : Plant) (tails : List ℕ) (c : ℕ) (h : c < plant.cpus) (rings : List Queue) (o : rings ≡ rings_of plant)
    (now : QueueRecord) (e : now ≡ at_tail (get_or rings c blank_queue).held (get_or tails c 0)) where
  now_is : now ≡ at_tail (queue_at (cpu_at plant c) 0) (get_or tails c 0)
  now_is = rw (ring_at plant rings c o) at e

  pub now_sound : RecordSound (valid (present extents)) (queue_at (cpu_at (with_tails plant tails) c) 0) → HeldSound extents now
  now_sound s = subst (RecordSound (valid (present extents))) (ring_there plant tails c h ∙ sym now_is) s

  -- the queue's record as it is then
  now_there : now ≡ queue_at (cpu_at (with_tails plant tails) c) 0
  now_there = now_is ∙ sym (ring_there plant tails c h)

  module _ (z : passed_over c ≡ false) (packet : List ℕ) (mark : ℕ) (m m' : List ℕ) (k : c < length tails) where
    pub tail_sent : (after : QueueRecord) (t : ℕ) → PutsIn extents (send_in now packet mark) m (Some after) m' → t ≡ tail_of after
        → Sends extents (send_one (with_tails plant tails) c packet mark) m (record { plant = with_tails plant (set tails c t); all = true }) m'
    unfolding send_in
    tail_sent after t f v =
        let s = puts_some extents (send_in now packet mark) m m' after f in
        let moved : after ≡ at_tail (queue_at (cpu_at plant c) 0) t =
        rw v (rw (s.1, now_is) (put_moves (queue_at (cpu_at plant c) 0) (get_or tails c 0) packet)) in
        rw (ring_stored plant tails c h t k, ← moved, s.1, ← s.0) (one_plant (with_tails plant tails) c z now now_there packet mark extents m m' f.memory)

    -- a ring without room keeps its tail
    pub tail_left : PutsIn extents (send_in now packet mark) m None m' → Sends extents (send_one (with_tails plant tails) c packet mark) m (record { plant = with_tails plant tails; all = false }) m'
    unfolding send_in
    tail_left f =
        let full : (put_in now packet).room ≡ false = puts_none extents (send_in now packet mark) m m' f in
        let stays : (put_in now packet).held ≡ now = ap (λ (p : PutIn). p.held) (put_full now packet full) in
        let same : with_tails plant tails ≡ with_queue (with_tails plant tails) c 0 now =
        ap (with_tails plant) (sym (set-get_or tails c 0)) ∙ ring_stored plant tails c h (get_or tails c 0) k ∙ ap (with_queue (with_tails plant tails) c 0) (sym now_is) in
        subst (λ (r : Told). Sends extents (send_one (with_tails plant tails) c packet mark) m r m')
        (λ i. record { plant = (ap (with_queue (with_tails plant tails) c 0) stays ∙ sym same) i; all = full i })
        (one_plant (with_tails plant tails) c z now now_there packet mark extents m m' f.memory)

-- a list whose elements are f's of another's, place by place
pub mapped : {A B : Type 0} (f : A → B) (d : A) (e : B) (xs : List A) (ys : List B) → length ys ≡ length xs → ((i : ℕ) → i < length xs → get_or ys i e ≡ f (get_or xs i d)) → ys ≡ map f xs
mapped f d e xs ys n h =
    ext_get_or e ys (map f xs) (n ∙ sym (length-map xs f)) (λ i l. let k : i < length xs = omega (arith, n) in h i k ∙ sym (get_or_mapped f xs i d e k))

-- a loop that fills a list, each element by f from its place in another: after i turns the first i
module _ {A B : Type 0} (f : A → B) (l : List A) where
  abbrev pub Filled : List B → ℕ → Type 0
  Filled s i = take i s ≡ map f (take i l)

  pub filled_all : (s : List B) (i : ℕ) → Filled s i → length s ≤ i → length l ≤ i → s ≡ map f l
  filled_all s i e h k = sym (take_all i s h) ∙ e ∙ ap (map f) (take_all i l k)
