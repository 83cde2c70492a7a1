-- What an event changes of its plant's record, and the record after.
use Rattle.std.specs.Prelude.{◌&&◌, List, [], ◌∷◌, ℕ, zero, suc, ltb, get_or, replicate, if◌then◌else◌}
use Rattle.rules.specs.declared.Answer.{Answer}
use Rattle.rules.specs.declared.Cpu.{Cpu}
use Rattle.rules.specs.declared.Plant.{Plant}
use Rattle.rules.specs.declared.QueueRecord.{QueueRecord}
use Rattle.rules.specs.declared.Tsbs.{Tsbs}
use Rattle.rules.specs.Limits.{cpu_limit, queue_limit, source_limit}
use Rattle.rules.specs.Kept.{blank_tsbs, cpu_at, queue_at, with_versions, with_cpu, with_queue, with_source, with_tail, cpu_with_queue, cpu_with_ctx0, cpu_with_ctxnon0, cpu_with_statistics}
use Rattle.rules.specs.Queues.{index_of}
use Rattle.rules.specs.Versions.{all_disabled}
use Rattle.plants.specs.declared.change.Change.{Change}
use Rattle.plants.specs.declared.change.CpuChange.{CpuChange}
use Rattle.plants.specs.declared.change.Done.{Done}

-- an answer, and a change that no list and no tails belong to
unfoldable pub done_by : Answer → Change → Done
done_by answer change = record { answer = answer; change = change; tsbs = blank_tsbs; tails = replicate cpu_limit 0 }

-- a ring with its tail there
unfoldable pub at_tail : QueueRecord → ℕ → QueueRecord
at_tail QueueRecord.Unset tail = QueueRecord.Unset
at_tail (QueueRecord.Set ring) tail = QueueRecord.Set (with_tail ring tail)

unfoldable pub cpu_at_tail : Cpu → ℕ → Cpu
cpu_at_tail cpu tail = cpu_with_queue cpu (index_of 0x3c) (at_tail (queue_at cpu (index_of 0x3c)) tail)

-- the first n of a list made anew, each by its place
unfoldable pub map_first : {A : Type 0} → (ℕ → A → A) → ℕ → List A → List A
map_first f zero l = l
map_first f (suc n) [] = []
map_first f (suc n) (x ∷ l) = f 0 x ∷ map_first (λ i. f (suc i)) n l

-- the 0x3c ring of each cpu that is there with its tail where the list says
unfoldable pub with_tails : Plant → List ℕ → Plant
with_tails plant tails = record {
  versions = plant.versions;
  cpus = plant.cpus;
  cpu = map_first (λ c cpu. cpu_at_tail cpu (get_or tails c 0)) plant.cpus plant.cpu;
  sources = plant.sources;
  source = plant.source;
}

-- a cpu's record after
unfoldable pub cpu_after : Cpu → Tsbs → CpuChange → Cpu
cpu_after cpu tsbs (CpuChange.Queue q held) = if ltb q queue_limit then cpu_with_queue cpu q held else cpu
cpu_after cpu tsbs CpuChange.Ctx0 = cpu_with_ctx0 cpu tsbs
cpu_after cpu tsbs CpuChange.Ctxnon0 = cpu_with_ctxnon0 cpu tsbs
cpu_after cpu tsbs (CpuChange.Statistics address) = cpu_with_statistics cpu address

-- the plant's record after; a place that is not there is not changed
unfoldable pub changed_by : Plant → Tsbs → List ℕ → Change → Plant
changed_by plant tsbs tails Change.Nothing = plant
changed_by plant tsbs tails (Change.Versions v) = with_versions plant v
changed_by plant tsbs tails (Change.Disabled v) = all_disabled (with_versions plant v)
changed_by plant tsbs tails (Change.Cpu c part) = if ltb c cpu_limit then with_cpu plant c (cpu_after (cpu_at plant c) tsbs part) else plant
changed_by plant tsbs tails (Change.Source i source) = if ltb i source_limit then with_source plant i source else plant
changed_by plant tsbs tails (Change.Delivered i source c held) =
    if ltb i source_limit && ltb c cpu_limit then with_source (with_queue plant c (index_of 0x3d) held) i source else plant
changed_by plant tsbs tails Change.Tails = with_tails plant tails

unfoldable pub plant_after : Plant → Done → Plant
plant_after plant d = changed_by plant d.tsbs d.tails d.change
