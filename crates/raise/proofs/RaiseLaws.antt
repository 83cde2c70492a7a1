-- The rule of a raise at each return of the code, from the tests on the way.
use Rattle.std.proofs.Common.{Option, Some, None, if◌then◌else◌}
use mathlib.Core.Path.{◌≡◌, refl, ap, ◌∙◌}
use mathlib.Core.Bool.{false}
use mathlib.Core.List.{List, ◌++◌}
use Prim.Native.Nat.{ℕ, ◌<◌}
use native.Mathlib.Omega.{arith}
use lib.ListN.{length, replicate}
use borrow.Author.Tests.{eq-eqb, ne_eqb}
use Rattle.rules.specs.declared.Answer.TheVariants.{One}
use Rattle.rules.specs.declared.Cpu.{Cpu}
use Rattle.rules.specs.declared.Extents.{Extents}
use Rattle.rules.specs.declared.Plant.{Plant}
use Rattle.rules.specs.declared.QueueRecord.{QueueRecord}
use Rattle.rules.specs.declared.Source.{Source}
use Rattle.rules.specs.Limits.{source_limit}
use Rattle.rules.specs.Kept.{cpu_at, queue_at, source_at, with_source, with_state}
use Rattle.rules.specs.Real.{word_bytes, apply}
use Rattle.rules.specs.Rulings.{Ruling, granted, Outcome, says}
use Rattle.rules.specs.Queues.{PutIn, put_in, Put, put}
use Rattle.rules.specs.Sources.{device_word, device_entry, raise_at}
use Rattle.memory.specs.Ready.{present}
use Rattle.records.specs.Sound.{Sound}
use Rattle.plants.specs.declared.change.Change.{Change}
use Rattle.plants.specs.declared.change.Done.{Done}
use Rattle.plants.specs.Changes.{done_by, plant_after}
use Rattle.plants.specs.Follows.{Follows}
use Rattle.plants.specs.Put.{PutsIn, HeldSound}
use Rattle.plants.proofs.ChangeLaws.{source_after, delivered_after}
use Rattle.plants.proofs.OutcomeLaws.{quiet, quiet_told, source_changes}
use Rattle.plants.proofs.PutLaws.{puts_none, puts_some, put_full}
use Rattle.raise.specs.Raised.{word_of, becoming, Delivers}

-- a raise of source i, s its record; d is what the code gives back
module _ (extents : Extents) (plant : Plant) (m : List ℕ) (i : ℕ) (s : Source) (sound : Sound extents plant (length m)) (there : i < plant.sources) (e : s ≡ source_at plant i) where
  source_below : i < source_limit
  source_below = omega (arith, sound.sources)

  pub target_there : s.target < plant.cpus
  target_there = rw e (sound.targets i there)

  pub ring_sound : (own : Cpu) → own ≡ cpu_at plant s.target → HeldSound extents (queue_at own 1)
  ring_sound own o = rw o (sound.rings s.target 1 target_there (omega arith))

  -- it stays delivered, or it is received
  module _ (d : Done) where
    pub raise_stays : d ≡ done_by (One 2) Change.Nothing → s.state ≡ 2 → Follows extents plant (raise_at plant i) m d m
    unfolding raise_at
    raise_stays g h = quiet_told extents plant (raise_at plant i) m d (One 2) g (rw (← e, eq-eqb s.state 2 h))

    pub raise_disabled : (s.state ≡ 2 → ⊥) → (s.enabled ≡ 1 → ⊥) → d ≡ becoming i s 1 → Follows extents plant (raise_at plant i) m d m
    unfolding raise_at becoming
    raise_disabled n h g =
        quiet extents plant (raise_at plant i) m d
        (source_changes plant (raise_at plant i) d (One 1) i _ g source_below (rw (← e, ne_eqb s.state 2 n, ne_eqb s.enabled 1 h)))

  -- an entry to its target, own the record there
  module _ (own : Cpu) (o : own ≡ cpu_at plant s.target) (w : ℕ) (entry : List ℕ) (a : w ≡ word_of plant.versions.interrupt i s) (b : entry ≡ word_bytes w ++ replicate 56 0)
      (m' : List ℕ) (k : Delivers s) where
    abbrev telling : Put → Ruling Outcome
    telling t =
        if t.room
        then granted (record { answer = One 2; plant = with_source t.plant i (with_state s 2); writes = t.writes })
        else says (One 1) (with_source plant i (with_state s 1))

    entry_is : device_entry plant i ≡ entry
    unfolding device_entry device_word word_of
    entry_is = rw (b, a, e)

    told : raise_at plant i ≡ telling (put plant s.target 0x3d entry)
    unfolding raise_at
    told = rw (entry_is, ← e, ne_eqb s.state 2 k.waits, eq-eqb s.enabled 1 k.enabled)

    -- the ring is the one that the rule looks at
    ring : (r : Option QueueRecord) → PutsIn extents (put_in (queue_at own 1) entry) m r m' → PutsIn extents (put_in (queue_at (cpu_at plant s.target) 1) entry) m r m'
    ring r p = rw o at p

    pub deliver_full : (d : Done) → PutsIn extents (put_in (queue_at own 1) entry) m None m' → d ≡ becoming i s 1 → Follows extents plant (raise_at plant i) m d m'
    unfolding becoming done_by plant_after put
    deliver_full d p g =
        let q : PutsIn extents (put_in (queue_at (cpu_at plant s.target) 1) entry) m None m' = ring None p in
        let full : (put_in (queue_at (cpu_at plant s.target) 1) entry).room ≡ false = puts_none extents _ m m' q in
        rw (told, full, g)
        (record { answer = refl; plant = source_after plant _ _ i _ source_below; memory = q.memory ∙ ap (λ (t : PutIn). apply (present extents) m t.writes) (put_full (queue_at (cpu_at plant s.target) 1) entry full) })

    pub deliver_done : (d : Done) (after : QueueRecord) → PutsIn extents (put_in (queue_at own 1) entry) m (Some after) m' → d ≡ done_by (One 2) (Change.Delivered i (with_state s 2) s.target after) → Follows extents plant (raise_at plant i) m d m'
    unfolding done_by plant_after put
    deliver_done d after p g =
        let q : PutsIn extents (put_in (queue_at (cpu_at plant s.target) 1) entry) m (Some after) m' = ring (Some after) p in
        let had = puts_some extents (put_in (queue_at (cpu_at plant s.target) 1) entry) m m' after q in
        rw (told, had.0, g, had.1)
        (record { answer = refl; plant = delivered_after plant _ _ s.target (omega (arith, sound.cpus, target_there)) i _ _ source_below; memory = q.memory })
