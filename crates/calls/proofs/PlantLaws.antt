-- The rule of a plant's own event at each return of the code.
use Rattle.std.proofs.Common.{Some, None}
use mathlib.Core.Path.{◌≡◌, refl}
use mathlib.Core.List.{List}
use Prim.Native.Nat.{ℕ, ◌-◌, ◌≤◌, ◌<◌}
use native.Mathlib.Omega.{arith}
use Rattle.rules.specs.declared.Answer.TheVariants.{Refused}
use Rattle.rules.specs.declared.Cpu.{Cpu}
use Rattle.rules.specs.declared.Device.{Device}
use Rattle.rules.specs.declared.Event.{Event}
use Rattle.rules.specs.declared.Extents.{Extents}
use Rattle.rules.specs.declared.Plant.{Plant}
use Rattle.rules.specs.declared.QueueRecord.{QueueRecord}
use Rattle.rules.specs.declared.Refusal.TheVariants.{NoSource}
use Rattle.rules.specs.declared.Source.{Source}
use Rattle.rules.specs.Kept.{cpu_at, queue_at}
use Rattle.rules.specs.Real.{Sight, valid}
use Rattle.rules.specs.Sources.{raise, raise_at}
use Rattle.rules.specs.Host.{plant_rule}
use Rattle.memory.specs.Ready.{present}
use Rattle.records.specs.Sound.{RecordSound, BufferSound, Sound}
use Rattle.plants.specs.declared.change.Change.{Change}
use Rattle.plants.specs.declared.change.Done.{Done}
use Rattle.plants.specs.Changes.{done_by}
use Rattle.plants.specs.Follows.{Follows}
use Rattle.queues.specs.Rings.{PlacesSound}
use Rattle.sources.specs.Seen.{named_in}
use Rattle.plants.proofs.OutcomeLaws.{quiet_told}
use Rattle.sources.proofs.SourceLaws.{named_nothing, named_at}

-- a ring that is sound holds its head and its tail
places_sound : (v : ℕ → ℕ → _) (held : QueueRecord) → RecordSound v held → PlacesSound held
places_sound v QueueRecord.Unset s = tt
places_sound v (QueueRecord.Set ring) s = record { head = s.head_below; tail = s.tail_below }

pub head_places : (extents : Extents) (plant : Plant) (n : ℕ) (own : Cpu) (cpu queue : ℕ) → Sound extents plant n → cpu < plant.cpus → own ≡ cpu_at plant cpu → queue ≤ 0x3f → PlacesSound (queue_at own (queue - 0x3c))
head_places extents plant n own cpu queue s h p l = rw p (places_sound _ (queue_at (cpu_at plant cpu) (queue - 0x3c)) (s.rings cpu (queue - 0x3c) h (omega arith)))

-- the buffer of a cpu that is there
pub hit_buffer : (extents : Extents) (plant : Plant) (n : ℕ) (own : Cpu) (cpu : ℕ) → Sound extents plant n → cpu < plant.cpus → own ≡ cpu_at plant cpu → BufferSound (valid (present extents)) own.statistics
hit_buffer extents plant n own cpu s h p = rw p (s.buffers cpu h)

-- a raise, by the source that its name stands for
module _ (extents : Extents) (plant : Plant) (s : Sight) (m : List ℕ) (d : Done) (v : Device) where
  pub raise_nothing : None ≡ named_in plant v.devhandle v.devino → d ≡ done_by (Refused NoSource) Change.Nothing → Follows extents plant (plant_rule s plant (Event.Raise v)) m d m
  unfolding plant_rule raise
  raise_nothing p g = quiet_told extents plant (plant_rule s plant (Event.Raise v)) m d (Refused NoSource) g (rw (← named_nothing plant v.devhandle v.devino None p refl))

  pub raise_there : (after : List ℕ) (i : ℕ) (source : Source) → Some (i, source) ≡ named_in plant v.devhandle v.devino → Follows extents plant (raise_at plant i) m d after → Follows extents plant (plant_rule s plant (Event.Raise v)) m d after
  unfolding plant_rule raise
  raise_there after i source p g = rw (← named_at plant v.devhandle v.devino (Some (i, source)) p i source refl) g
