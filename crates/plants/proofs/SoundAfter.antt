-- A plant keeps what the rule on tables tells of it when one of its queues is replaced, and when the tail of a ring moves on.
use mathlib.Core.Path.{◌≡◌, refl, sym, subst}
use mathlib.Core.Bool.{Bool, true, false}
use mathlib.Core.List.{List, [], ◌∷◌}
use mathlib.Core.Logic.{◌⊎◌, inl, inr, ⊎_elim}
use Prim.Native.Nat.{ℕ, zero, suc, ◌+◌, ◌%◌, ◌<◌}
use native.Mathlib.Nat.{mod-eq_of_lt, mod_self}
use native.Mathlib.Omega.{arith}
use lib.Dec.{eqb}
use lib.ListN.{get_or, set}
use borrow.Author.Tests.{eqb-true, eqb-false}
use Rattle.rules.specs.declared.Cpu.{Cpu}
use Rattle.rules.specs.declared.Extents.{Extents}
use Rattle.rules.specs.declared.Plant.{Plant}
use Rattle.rules.specs.declared.Queue.{Queue}
use Rattle.rules.specs.declared.QueueRecord.{QueueRecord}
use Rattle.rules.specs.declared.Ring.{Ring}
use Rattle.rules.specs.Kept.{blank_queue, hollow_cpu, cpu_at, queue_at, cpu_with_queue, with_queue, with_tail}
use Rattle.rules.specs.Real.{valid}
use Rattle.rules.specs.Queues.{next_tail, has_room, put_in}
use Rattle.memory.specs.Ready.{present}
use Rattle.records.specs.Sound.{RingSound, RecordSound, BufferSound, Sound}

-- what stands in a list after a store is what was stored, or what stood there
set_cases : {A : Type 0} (l : List A) (i j : ℕ) (a d : A) → (get_or (set l i a) j d ≡ a) ⊎ (get_or (set l i a) j d ≡ get_or l j d)
set_cases [] i j a d = inr refl
set_cases (x ∷ l) zero zero a d = inl refl
set_cases (x ∷ l) zero (suc j) a d = inr refl
set_cases (x ∷ l) (suc i) zero a d = inr refl
set_cases (x ∷ l) (suc i) (suc j) a d = set_cases l i j a d

module _ (v : ℕ → ℕ → Bool) (cpu : Cpu) (q : ℕ) (held : QueueRecord) (h : RecordSound v held) where
  queue_sound : (j : ℕ) → RecordSound v (queue_at cpu j) → RecordSound v (queue_at (cpu_with_queue cpu q held) j)
  queue_sound j k =
      ⊎_elim
      (λ e. subst (λ (u : Queue). RecordSound v u.held) (sym e) h)
      (λ e. subst (λ (u : Queue). RecordSound v u.held) (sym e) k)
      (set_cases cpu.queue q j (record { held = held }) blank_queue)

pub queue_replaced : (extents : Extents) (plant : Plant) (n cpu q : ℕ) (held : QueueRecord) → Sound extents plant n → cpu < plant.cpus → RecordSound (valid (present extents)) held
    → Sound extents (with_queue plant cpu q held) n
unfolding with_queue
queue_replaced extents plant n cpu q held s a h = record {
  few = s.few;
  ready = s.ready;
  cpus = s.cpus;
  sources = s.sources;
  rings = λ c j l k.
      ⊎_elim
      (λ e. subst (λ (u : Cpu). RecordSound (valid (present extents)) (queue_at u j)) (sym e) (queue_sound _ (cpu_at plant cpu) q held h j (s.rings cpu j a k)))
      (λ e. subst (λ (u : Cpu). RecordSound (valid (present extents)) (queue_at u j)) (sym e) (s.rings c j l k))
      (set_cases plant.cpu cpu c (cpu_with_queue (cpu_at plant cpu) q held) hollow_cpu);
  buffers = λ c l.
      ⊎_elim
      (λ e. subst (λ (u : Cpu). BufferSound (valid (present extents)) u.statistics) (sym e) (s.buffers cpu a))
      (λ e. subst (λ (u : Cpu). BufferSound (valid (present extents)) u.statistics) (sym e) (s.buffers c l))
      (set_cases plant.cpu cpu c (cpu_with_queue (cpu_at plant cpu) q held) hollow_cpu);
  targets = s.targets;
}

pub tail_moved : (v : ℕ → ℕ → Bool) (ring : Ring) → RingSound v ring → RingSound v (with_tail ring (next_tail ring))
tail_moved v ring r = go (eqb (ring.tail + 64) ring.size) refl
  where
    at : (t : ℕ) → next_tail ring ≡ t → t % 64 ≡ 0 → t < ring.size → RingSound v (with_tail ring (next_tail ring))
    at t e p q = record {
      within = r.within;
      least = r.least;
      most = r.most;
      whole = r.whole;
      head = r.head;
      head_below = r.head_below;
      tail = rw e p;
      tail_below = rw e q;
    }

    go : (b : Bool) → eqb (ring.tail + 64) ring.size ≡ b → RingSound v (with_tail ring (next_tail ring))
    go true e =
        let z : ring.tail + 64 ≡ ring.size = eqb-true _ _ e in
        at 0 (rw z (mod_self ring.size)) refl (omega (arith, r.least))
    go false e =
        let z : ring.tail + 64 < ring.size = omega (arith, eqb-false (ring.tail + 64) ring.size e, r.tail, r.whole, r.tail_below) in
        at (ring.tail + 64) (mod-eq_of_lt z) (omega (arith, r.tail)) z

-- a record that an entry is put into stays sound
pub put_sound : (v : ℕ → ℕ → Bool) (held : QueueRecord) (entry : List ℕ) → RecordSound v held → RecordSound v (put_in held entry).held
unfolding put_in
put_sound v QueueRecord.Unset entry h = h
put_sound v (QueueRecord.Set ring) entry h = go (has_room ring) refl
  where
    go : (b : Bool) → has_room ring ≡ b → RecordSound v (put_in (QueueRecord.Set ring) entry).held
    go true e = rw e (tail_moved v ring h)
    go false e = rw e h
