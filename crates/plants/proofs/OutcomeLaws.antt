-- From what a rule says, x, to what the code gives back: the laws of the single calls need to speak of the rule alone.
use mathlib.Core.Path.{◌≡◌, refl, ap}
use mathlib.Core.List.{List}
use Prim.Native.Nat.{ℕ, ◌<◌}
use lib.ListN.{replicate}
use Rattle.rules.specs.declared.Extents.{Extents}
use Rattle.rules.specs.declared.Plant.{Plant}
use Rattle.rules.specs.declared.QueueRecord.{QueueRecord}
use Rattle.rules.specs.declared.Source.{Source}
use Rattle.rules.specs.declared.Refusal.{Refusal}
use Rattle.rules.specs.declared.Answer.{Answer}
use Rattle.rules.specs.declared.Versions.{Versions}
use Rattle.rules.specs.declared.Answer.TheVariants.{Refused}
use Rattle.rules.specs.Limits.{cpu_limit, queue_limit, source_limit}
use Rattle.rules.specs.Kept.{blank_tsbs, with_versions, with_queue, with_statistics, with_source}
use Rattle.rules.specs.Real.{apply}
use Rattle.rules.specs.Rulings.{Ruling, refused, Outcome, outcome_of, says}
use Rattle.memory.specs.Ready.{present}
use Rattle.plants.specs.declared.change.Change.{Change}
use Rattle.plants.specs.declared.change.CpuChange.{CpuChange}
use Rattle.plants.specs.declared.change.Done.{Done}
use Rattle.plants.specs.Changes.{done_by, changed_by, plant_after}
use Rattle.plants.specs.Done.{quietly, saying}
use Rattle.plants.specs.Follows.{Follows}
use Rattle.plants.proofs.ChangeLaws.{queue_after, statistics_after, source_after}

module _ (plant : Plant) (x : Ruling Outcome) where
  pub refuses : (r : Refusal) → x ≡ refused r → saying plant (Refused r) ≡ outcome_of plant x
  refuses r e = rw e

  pub answers : (a : Answer) → x ≡ says a plant → saying plant a ≡ outcome_of plant x
  answers a e = rw e

  -- d is what the code gives back
  module _ (d : Done) where
    pub tells : (a : Answer) → d ≡ done_by a Change.Nothing → saying plant a ≡ outcome_of plant x → quietly plant d ≡ outcome_of plant x
    unfolding plant_after changed_by done_by
    tells a g e = rw g e

    pub tells_refusal : (r : Refusal) → x ≡ refused r → d ≡ done_by (Refused r) Change.Nothing → quietly plant d ≡ outcome_of plant x
    tells_refusal r e g = tells (Refused r) g (refuses r e)

    -- m is the rule's record after
    pub changes : (a : Answer) (change : Change) (m : Plant) → d ≡ done_by a change → changed_by plant blank_tsbs (replicate cpu_limit 0) change ≡ m → x ≡ says a m → quietly plant d ≡ outcome_of plant x
    unfolding plant_after done_by
    changes a change m g f e = rw (g, e, f)

    -- a cpu's statistics address, a source
    module _ (a : Answer) where
      pub statistics_changes : (c address : ℕ) → d ≡ done_by a (Change.Cpu c (CpuChange.Statistics address)) → c < cpu_limit → x ≡ says a (with_statistics plant c address) → quietly plant d ≡ outcome_of plant x
      statistics_changes c address g h e = changes a _ _ g (statistics_after plant _ _ c h address) e

      pub source_changes : (i : ℕ) (s : Source) → d ≡ done_by a (Change.Source i s) → i < source_limit → x ≡ says a (with_source plant i s) → quietly plant d ≡ outcome_of plant x
      source_changes i s g h e = changes a _ _ g (source_after plant _ _ i s h) e

-- a call that writes nothing leaves the memory as it was
module _ (extents : Extents) (plant : Plant) (x : Ruling Outcome) (m : List ℕ) (d : Done) where
  pub quiet : quietly plant d ≡ outcome_of plant x → Follows extents plant x m d m
  unfolding apply
  quiet e = record {
    answer = ap (λ (o : Outcome). o.answer) e;
    plant = ap (λ (o : Outcome). o.plant) e;
    memory = ap (λ (o : Outcome). apply (present extents) m o.writes) e;
  }

  pub quiet_told : (a : Answer) → d ≡ done_by a Change.Nothing → saying plant a ≡ outcome_of plant x → Follows extents plant x m d m
  quiet_told a g e = quiet (tells plant x d a g e)

  pub quiet_refused : (r : Refusal) → d ≡ done_by (Refused r) Change.Nothing → x ≡ refused r → Follows extents plant x m d m
  quiet_refused r g e = quiet (tells_refusal plant x d r e g)

-- what the code gives back, as rewrites: its answer, and the record after each change
pub answer_done : (a : Answer) (change : Change) → (done_by a change).answer ≡ a
unfolding done_by
answer_done a change = refl

module _ (plant : Plant) (a : Answer) where
  pub change_done : (change : Change) → plant_after plant (done_by a change) ≡ changed_by plant blank_tsbs (replicate cpu_limit 0) change
  unfolding plant_after done_by
  change_done change = refl

  pub nothing_done : plant_after plant (done_by a Change.Nothing) ≡ plant
  unfolding plant_after changed_by done_by
  nothing_done = refl

  pub versions_done : (v : Versions) → plant_after plant (done_by a (Change.Versions v)) ≡ with_versions plant v
  unfolding plant_after changed_by done_by
  versions_done v = refl

  pub queue_done : (c q : ℕ) (held : QueueRecord) → c < cpu_limit → q < queue_limit → plant_after plant (done_by a (Change.Cpu c (CpuChange.Queue q held))) ≡ with_queue plant c q held
  unfolding plant_after done_by
  queue_done c q held h k = queue_after plant _ _ c h q held k

  pub statistics_done : (c address : ℕ) → c < cpu_limit → plant_after plant (done_by a (Change.Cpu c (CpuChange.Statistics address))) ≡ with_statistics plant c address
  unfolding plant_after done_by
  statistics_done c address h = statistics_after plant _ _ c h address

  pub source_done : (i : ℕ) (s : Source) → i < source_limit → plant_after plant (done_by a (Change.Source i s)) ≡ with_source plant i s
  unfolding plant_after done_by
  source_done i s h = source_after plant _ _ i s h

pub ruleset outcomes = (answer_done, nothing_done, versions_done, queue_done, statistics_done, source_done)
