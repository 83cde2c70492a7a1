-- From the rule on tables, a test, to the facts.
use Rattle.std.proofs.Common.{Ok}
use mathlib.Core.Path.{◌≡◌}
use mathlib.Core.Bool.{Bool, true, ◌&&◌}
use Prim.Native.Nat.{ℕ, ◌*◌, ◌/◌, ◌%◌, ◌≤◌, ◌<◌}
use native.Mathlib.Omega.{arith}
use lib.Dec.{eqb, ltb, leb}
use borrow.Author.Tests.{eqb-true, ne_eqb, ltb-true, leb-true, lt-ltb}
use Rattle.rules.specs.declared.QueueRecord.{QueueRecord}
use Rattle.rules.specs.declared.Ring.{Ring}
use Rattle.rules.specs.declared.Cpu.{Cpu}
use Rattle.rules.specs.declared.Plant.{Plant}
use Rattle.rules.specs.declared.Source.{Source}
use Rattle.rules.specs.Kept.{cpu_at, queue_at, source_at}
use Rattle.rules.specs.Limits.{cpu_limit, source_limit, queue_limit, devhandles, devinos}
use Rattle.rules.specs.Memory.{new_statistics}
use Rattle.rules.specs.Queues.{new_ring}
use Rattle.rules.specs.Rulings.{accepts}
use Rattle.rules.specs.Scan.{all_below}
use Rattle.rules.specs.Tables.{list_right, place_right, ring_right, record_right, tsbs_right, cpu_right, cpu_blank, source_right, source_blank, versions_right, plant_keeps}
use Rattle.rules.proofs.Scan.{all_at}
use Rattle.rules.proofs.Tests.{and_left, and_right}
use Rattle.records.specs.Sound.{RingSound, RecordSound, BufferSound}
use Rattle.records.specs.Verdict.{verdict_of}
use Rattle.records.proofs.Told.{told_right, told_then, range_told, entries_least, entries_most}

-- a list that is right: its length, and what holds at each place that is there
module _ (limit count : ℕ) (right blank : ℕ → Bool) (e : list_right limit count right blank ≡ true) where
  pub list_length : count ≤ limit
  unfolding list_right
  list_length = leb-true _ _ (and_left _ _ e)

  pub list_there : (i : ℕ) → i < count → right i ≡ true
  unfolding list_right
  list_there i h =
      let l : count ≤ limit = list_length in
      rw (lt-ltb i count h) at (all_at _ limit i (and_right (leb count limit) _ e) (omega arith))

module _ (v : ℕ → ℕ → Bool) (ring : Ring) (e : ring_right v ring ≡ true) where
  whole_is : eqb (ring.size % 64) 0 ≡ true
  unfolding ring_right
  whole_is = and_left _ _ (and_left _ _ e)

  accepted : accepts (new_ring v ring.base (ring.size / 64)) ≡ true
  unfolding ring_right
  accepted = and_right (eqb (ring.size % 64) 0) _ (and_left _ _ e)

  right_is : verdict_of (new_ring v ring.base (ring.size / 64)) ≡ Ok tt
  right_is = told_right _ accepted

  size_is : 64 * (ring.size / 64) ≡ ring.size
  size_is = omega (arith, eqb-true (ring.size % 64) 0 whole_is)

  places : (place_right ring.size ring.head && place_right ring.size ring.tail) ≡ true
  unfolding ring_right
  places = and_right (eqb (ring.size % 64) 0 && accepts (new_ring v ring.base (ring.size / 64))) _ e

  place_whole : (at : ℕ) → place_right ring.size at ≡ true → at % 64 ≡ 0
  unfolding place_right
  place_whole at p = eqb-true _ _ (and_left _ _ p)

  place_below : (at : ℕ) → place_right ring.size at ≡ true → at < ring.size
  unfolding place_right
  place_below at p = ltb-true _ _ (and_right (eqb (at % 64) 0) _ p)

  pub ring_sound : RingSound v ring
  ring_sound = record {
    within = rw size_is at (range_told v _ _ right_is);
    least = omega (arith, size_is, entries_least v _ _ right_is);
    most = omega (arith, size_is, entries_most v _ _ right_is);
    whole = eqb-true _ _ whole_is;
    head = place_whole _ (and_left _ _ places);
    head_below = place_below _ (and_left _ _ places);
    tail = place_whole _ (and_right (place_right ring.size ring.head) _ places);
    tail_below = place_below _ (and_right (place_right ring.size ring.head) _ places);
  }

pub record_sound : (v : ℕ → ℕ → Bool) (held : QueueRecord) → record_right v held ≡ true → RecordSound v held
record_sound v QueueRecord.Unset e = tt
record_sound v (QueueRecord.Set ring) e = ring_sound v ring e

cpu_record : (v : ℕ → ℕ → Bool) (cpu : Cpu) (q : ℕ) → cpu_right v cpu ≡ true → q < 4 → record_right v (queue_at cpu q) ≡ true
unfolding cpu_right
cpu_record v cpu q e h = all_at (λ j. record_right v (queue_at cpu j)) 4 q (and_left _ _ e) h

-- an address that 0x102 would accept
pub buffer_sound : (v : ℕ → ℕ → Bool) (address : ℕ) → accepts (new_statistics v address) ≡ true → BufferSound v address
unfolding new_statistics
buffer_sound v address e some =
    let told : verdict_of (new_statistics v address) ≡ Ok tt = told_right _ e in
    let aligned : eqb (address % 64) 0 ≡ true = told_then _ _ _ (rw (ne_eqb address 0 some) at told) in
    told_then _ _ _ (rw (ne_eqb address 0 some, aligned) at told)

cpu_buffer : (v : ℕ → ℕ → Bool) (cpu : Cpu) → cpu_right v cpu ≡ true → BufferSound v cpu.statistics
unfolding cpu_right
cpu_buffer v cpu e =
    buffer_sound v cpu.statistics
    (and_right (tsbs_right v cpu.ctxnon0) _ (and_right (tsbs_right v cpu.ctx0) _ (and_right (all_below queue_limit (λ q. record_right v (queue_at cpu q))) _ e)))

pub source_target : (plant : Plant) (s : Source) → source_right plant s ≡ true → s.target < plant.cpus
unfolding source_right
source_target plant s e =
    let named : Bool = ltb s.devhandle devhandles && ltb s.devino devinos in
    let states : Bool = leb s.enabled 1 && leb s.state 2 in
    ltb-true s.target plant.cpus (and_left (ltb s.target plant.cpus) _ (and_right states _ (and_right named _ e)))

-- a plant that keeps the rules
module _ (v : ℕ → ℕ → Bool) (plant : Plant) (e : plant_keeps v plant ≡ true) where
  cpus_right : list_right cpu_limit plant.cpus (λ c. cpu_right v (cpu_at plant c)) (λ c. cpu_blank (cpu_at plant c)) ≡ true
  unfolding plant_keeps
  cpus_right = and_left _ _ (and_right (leb 1 plant.cpus && versions_right plant.versions) _ e)

  pub sources_right : list_right source_limit plant.sources (λ i. source_right plant (source_at plant i)) (λ i. source_blank (source_at plant i)) ≡ true
  unfolding plant_keeps
  sources_right =
      and_right (list_right cpu_limit plant.cpus (λ c. cpu_right v (cpu_at plant c)) (λ c. cpu_blank (cpu_at plant c))) _
      (and_right (leb 1 plant.cpus && versions_right plant.versions) _ e)

  pub plant_cpus : plant.cpus ≤ cpu_limit
  plant_cpus = list_length _ _ _ _ cpus_right

  pub plant_sources : plant.sources ≤ source_limit
  plant_sources = list_length _ _ _ _ sources_right

  pub plant_records : (c q : ℕ) → c < plant.cpus → q < 4 → record_right v (queue_at (cpu_at plant c) q) ≡ true
  plant_records c q h k = cpu_record v (cpu_at plant c) q (list_there _ _ _ _ cpus_right c h) k

  pub plant_rings : (c q : ℕ) → c < plant.cpus → q < 4 → RecordSound v (queue_at (cpu_at plant c) q)
  plant_rings c q h k = record_sound v (queue_at (cpu_at plant c) q) (plant_records c q h k)

  pub plant_buffers : (c : ℕ) → c < plant.cpus → BufferSound v (cpu_at plant c).statistics
  plant_buffers c h = cpu_buffer v (cpu_at plant c) (list_there _ _ _ _ cpus_right c h)

  pub plant_targets : (i : ℕ) → i < plant.sources → (source_at plant i).target < plant.cpus
  plant_targets i h = source_target plant (source_at plant i) (list_there _ _ _ _ sources_right i h)
