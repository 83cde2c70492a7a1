-- One entry of a mondo's list: it is passed over, left, or sent; and what each leaves of the rings.
use mathlib.Core.Path.{◌≡◌, refl, sym, ap, ◌∙◌}
use mathlib.Core.Bool.{Bool, true, false, false≢true}
use mathlib.Core.List.{List, [], ◌∷◌}
use Prim.Native.Nat.{ℕ, ◌+◌, ◌<◌}
use native.Mathlib.Omega.{arith}
use lib.ListN.{set}
use lib.Seq.{set-get_or, get_or-set_same, get_or-set_other}
use Rattle.rules.specs.declared.Cpu.{Cpu}
use Rattle.rules.specs.declared.Plant.{Plant}
use Rattle.rules.specs.declared.Queue.{Queue}
use Rattle.rules.specs.declared.QueueRecord.{QueueRecord}
use Rattle.rules.specs.declared.Ring.{Ring}
use Rattle.rules.specs.Kept.{blank_queue, hollow_cpu, cpu_at, queue_at, cpu_with_queue, with_queue, with_tail}
use Rattle.rules.specs.Queues.{next_tail, has_room, put_in, put}
use Rattle.rules.specs.Mondo.{passed_over, Sent, send_one}
use Rattle.kept.proofs.Lists.{placed}
use Rattle.records.specs.Sound.{RecordSound}
use Rattle.promises.specs.Resent.{mondo_ring, room_in}
use Rattle.promises.proofs.Rooms.{some_room}

no_ring : (ring : Ring) → QueueRecord.Unset ≡ QueueRecord.Set ring → ⊥
no_ring ring e = let z : ◌≡◌ {A = ℕ} 0 1 = cc in omega arith

module _ (plant : Plant) (x : ℕ) where
  -- the 0x3c record of one cpu replaced
  abbrev pub ring_put : QueueRecord → Plant
  ring_put held = with_queue plant x 0 held

  -- by itself: nothing changed
  put_same : ring_put (mondo_ring plant x) ≡ plant
  unfolding with_queue
  put_same =
      let cpu : cpu_with_queue (cpu_at plant x) 0 (mondo_ring plant x) ≡ cpu_at plant x = λ i. record { queue = set-get_or (cpu_at plant x).queue 0 blank_queue i; ctx0 = (cpu_at plant x).ctx0; ctxnon0 = (cpu_at plant x).ctxnon0; statistics = (cpu_at plant x).statistics } in
      (λ i. record { versions = plant.versions; cpus = plant.cpus; cpu = (ap (set plant.cpu x) cpu ∙ set-get_or plant.cpu x hollow_cpu) i; sources = plant.sources; source = plant.source })

  -- the other cpus have theirs,
  pub ring_other : (held : QueueRecord) (c : ℕ) → (c ≡ x → ⊥) → mondo_ring (ring_put held) c ≡ mondo_ring plant c
  unfolding with_queue
  ring_other held c d = ap (λ (u : Cpu). queue_at u 0) (get_or-set_other plant.cpu x c (cpu_with_queue (cpu_at plant x) 0 held) hollow_cpu d)

  -- and this one, if it had a ring, the new one
  pub ring_new : (ring new : Ring) → mondo_ring plant x ≡ QueueRecord.Set ring → mondo_ring (ring_put (QueueRecord.Set new)) x ≡ QueueRecord.Set new
  unfolding with_queue
  ring_new ring new e =
      ap (λ (u : Cpu). queue_at u 0)
      (get_or-set_same plant.cpu x (cpu_with_queue (cpu_at plant x) 0 (QueueRecord.Set new)) hollow_cpu
      (placed plant.cpu x hollow_cpu (λ q. no_ring ring (sym (ap (λ (u : Cpu). queue_at u 0) q) ∙ e))))
      ∙ ap (λ (q : Queue). q.held)
      (get_or-set_same (cpu_at plant x).queue 0 (record { held = QueueRecord.Set new }) blank_queue
      (placed (cpu_at plant x).queue 0 blank_queue (λ q. no_ring ring (sym (ap (λ (u : Queue). u.held) q) ∙ e))))

  module _ (packet : List ℕ) (mark : ℕ) where
    abbrev pub sent : Ring → Sent
    sent ring = record {
      plant = ring_put (QueueRecord.Set (with_tail ring (next_tail ring)));
      all = true;
      writes = record { at = ring.base + ring.tail; bytes = packet } ∷ record { at = mark; bytes = 0xff ∷ 0xff ∷ [] } ∷ [];
    }

    -- nothing done
    abbrev pub nothing : Bool → Sent
    nothing all = record { plant = plant; all = all; writes = [] }

    -- what becomes of an entry x
    pub data Step : Type 0 where
      passed : passed_over x ≡ true → send_one plant x packet mark ≡ nothing true → Step
      left : passed_over x ≡ false → ((v : ℕ → ℕ → Bool) → RecordSound v (mondo_ring plant x) → 0 < room_in (mondo_ring plant x) → ⊥)
          → send_one plant x packet mark ≡ nothing false → Step
      goes : passed_over x ≡ false → (ring : Ring) → mondo_ring plant x ≡ QueueRecord.Set ring → has_room ring ≡ true → send_one plant x packet mark ≡ sent ring → Step

    pub step : Step
    unfolding send_one put put_in
    step = over (passed_over x) refl
      where
        unput : (held : QueueRecord) → mondo_ring plant x ≡ held → ◌≡◌ {A = Sent} (record { plant = ring_put held; all = false; writes = [] }) (nothing false)
        unput held e = λ i. record { plant = (ap ring_put (sym e) ∙ put_same) i; all = false; writes = [] }

        into : passed_over x ≡ false → (held : QueueRecord) → mondo_ring plant x ≡ held → Step
        into p QueueRecord.Unset e = left p (λ v s h. absurd (omega (arith, rw e at h))) (rw (p, e) (unput QueueRecord.Unset e))
        into p (QueueRecord.Set ring) e = go (has_room ring) refl
          where
            go : (t : Bool) → has_room ring ≡ t → Step
            go true r = goes p ring e r (rw (p, e, r))
            go false r = left p (λ v s h. false≢true (sym r ∙ some_room v ring (rw e at s) (rw e at h))) (rw (p, e, r) (unput (QueueRecord.Set ring) e))

        over : (t : Bool) → passed_over x ≡ t → Step
        over true p = passed p (rw p)
        over false p = into p (mondo_ring plant x) refl
