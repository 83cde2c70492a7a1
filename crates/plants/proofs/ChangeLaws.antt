-- What each change makes of a plant's record, where the place is there.
use mathlib.Core.Path.{◌≡◌}
use mathlib.Core.List.{List}
use Prim.Native.Nat.{ℕ, ◌<◌}
use borrow.Author.Tests.{lt-ltb}
use Rattle.rules.specs.declared.Plant.{Plant}
use Rattle.rules.specs.declared.QueueRecord.{QueueRecord}
use Rattle.rules.specs.declared.Source.{Source}
use Rattle.rules.specs.declared.Tsbs.{Tsbs}
use Rattle.rules.specs.Limits.{cpu_limit, queue_limit, source_limit}
use Rattle.rules.specs.Kept.{with_queue, with_statistics, with_source, with_ctx0, with_ctxnon0}
use Rattle.plants.specs.declared.change.Change.{Change}
use Rattle.plants.specs.declared.change.CpuChange.{CpuChange}
use Rattle.plants.specs.Changes.{changed_by, cpu_after}

module _ (plant : Plant) (tsbs : Tsbs) (tails : List ℕ) where
  pub source_after : (i : ℕ) (s : Source) → i < source_limit → changed_by plant tsbs tails (Change.Source i s) ≡ with_source plant i s
  unfolding changed_by
  source_after i s h = rw (lt-ltb _ _ h)

  module _ (c : ℕ) (h : c < cpu_limit) where
    pub queue_after : (q : ℕ) (held : QueueRecord) → q < queue_limit → changed_by plant tsbs tails (Change.Cpu c (CpuChange.Queue q held)) ≡ with_queue plant c q held
    unfolding changed_by cpu_after with_queue
    queue_after q held k = rw (lt-ltb _ _ h, lt-ltb _ _ k)

    pub statistics_after : (a : ℕ) → changed_by plant tsbs tails (Change.Cpu c (CpuChange.Statistics a)) ≡ with_statistics plant c a
    unfolding changed_by cpu_after with_statistics
    statistics_after a = rw (lt-ltb _ _ h)

    pub ctx0_after : changed_by plant tsbs tails (Change.Cpu c CpuChange.Ctx0) ≡ with_ctx0 plant c tsbs
    unfolding changed_by cpu_after with_ctx0
    ctx0_after = rw (lt-ltb _ _ h)

    pub ctxnon0_after : changed_by plant tsbs tails (Change.Cpu c CpuChange.Ctxnon0) ≡ with_ctxnon0 plant c tsbs
    unfolding changed_by cpu_after with_ctxnon0
    ctxnon0_after = rw (lt-ltb _ _ h)

    -- a source and the 0x3d queue of a cpu
    pub delivered_after : (i : ℕ) (s : Source) (held : QueueRecord) → i < source_limit → changed_by plant tsbs tails (Change.Delivered i s c held) ≡ with_source (with_queue plant c 1 held) i s
    unfolding changed_by
    delivered_after i s held k = rw (lt-ltb _ _ h, lt-ltb _ _ k)
