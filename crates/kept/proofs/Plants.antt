-- A plant that keeps the rules, with one part of its record replaced by one that is right.
use mathlib.Core.Path.{◌≡◌, refl, ◌∙◌}
use mathlib.Core.Bool.{Bool, true, ◌&&◌}
use Prim.Native.Nat.{ℕ, ◌≤◌, ◌<◌}
use native.Mathlib.Omega.{arith}
use lib.Dec.{leb}
use lib.ListN.{get_or, set}
use Rattle.rules.specs.declared.Cpu.{Cpu}
use Rattle.rules.specs.declared.Plant.{Plant}
use Rattle.rules.specs.declared.Queue.{Queue}
use Rattle.rules.specs.declared.QueueRecord.{QueueRecord}
use Rattle.rules.specs.declared.Source.{Source}
use Rattle.rules.specs.declared.Tsbs.{Tsbs}
use Rattle.rules.specs.Limits.{cpu_limit, source_limit, queue_limit}
use Rattle.rules.specs.Scan.{all_below}
use Rattle.rules.specs.Kept.{cpu_at, queue_at, source_at, blank_queue, blank_source, hollow_cpu, with_cpu, cpu_with_queue, cpu_with_ctx0, cpu_with_ctxnon0, cpu_with_statistics, with_sources, with_source}
use Rattle.rules.specs.Rulings.{accepts}
use Rattle.rules.specs.Memory.{new_statistics}
use Rattle.rules.specs.Tables.{list_right, cpu_right, cpu_blank, record_right, tsbs_right, source_right, source_blank, versions_right, plant_keeps}
use Rattle.rules.proofs.Scan.{all_at, all_of}
use Rattle.rules.proofs.Tests.{and_left, and_right}
use Rattle.records.proofs.SoundLaws.{list_there}
use Rattle.kept.proofs.Lists.{set_either, list_replaced}

-- the parts of the rule
module _ (v : ℕ → ℕ → Bool) (plant : Plant) (e : plant_keeps v plant ≡ true) where
  abbrev pub cpus_part : Bool
  cpus_part = list_right cpu_limit plant.cpus (λ c. cpu_right v (cpu_at plant c)) (λ c. cpu_blank (cpu_at plant c))

  abbrev pub sources_part : Bool
  sources_part = list_right source_limit plant.sources (λ i. source_right plant (source_at plant i)) (λ i. source_blank (source_at plant i))

  pub first_part : (leb 1 plant.cpus && versions_right plant.versions) ≡ true
  unfolding plant_keeps
  first_part = and_left _ _ e

  pub cpus_part_lem : cpus_part ≡ true
  unfolding plant_keeps
  cpus_part_lem = and_left cpus_part sources_part (and_right (leb 1 plant.cpus && versions_right plant.versions) _ e)

  pub sources_part_lem : sources_part ≡ true
  unfolding plant_keeps
  sources_part_lem = and_right cpus_part sources_part (and_right (leb 1 plant.cpus && versions_right plant.versions) _ e)

  pub cpu_there : (c : ℕ) → c < plant.cpus → cpu_right v (cpu_at plant c) ≡ true
  cpu_there c h = list_there cpu_limit plant.cpus (λ c. cpu_right v (cpu_at plant c)) (λ c. cpu_blank (cpu_at plant c)) cpus_part_lem c h

  pub source_there : (i : ℕ) → i < plant.sources → source_right plant (source_at plant i) ≡ true
  source_there i h = list_there source_limit plant.sources (λ i. source_right plant (source_at plant i)) (λ i. source_blank (source_at plant i)) sources_part_lem i h

-- a plant's record after, which keeps the rules and names the same sources, and under which group 1 stays negotiated
pub record Kept (v : ℕ → ℕ → Bool) (plant after : Plant) : Type 0 where
  pub keeps : plant_keeps v after ≡ true
  pub core : plant.versions.core ≤ after.versions.core
  pub cpus : after.cpus ≡ plant.cpus
  pub sources : after.sources ≡ plant.sources
  pub named : (i : ℕ) → ((source_at after i).devhandle ≡ (source_at plant i).devhandle) × ((source_at after i).devino ≡ (source_at plant i).devino)

pub unchanged : (v : ℕ → ℕ → Bool) (plant : Plant) → plant_keeps v plant ≡ true → Kept v plant plant
unchanged v plant e = record { keeps = e; core = omega arith; cpus = refl; sources = refl; named = λ i. (refl, refl) }

pub further : (v : ℕ → ℕ → Bool) (a b c : Plant) → Kept v a b → Kept v b c → Kept v a c
further v a b c p q = record {
  keeps = q.keeps;
  core = omega (arith, p.core, q.core);
  cpus = q.cpus ∙ p.cpus;
  sources = q.sources ∙ p.sources;
  named = λ i. ((q.named i).0 ∙ (p.named i).0, (q.named i).1 ∙ (p.named i).1);
}

module _ (v : ℕ → ℕ → Bool) (plant : Plant) (e : plant_keeps v plant ≡ true) where
  -- a cpu replaced
  pub cpu_replaced : (c : ℕ) (x : Cpu) → c < plant.cpus → cpu_right v x ≡ true → Kept v plant (with_cpu plant c x)
  unfolding plant_keeps source_right
  cpu_replaced c x h r = record { keeps = whole; core = omega arith; cpus = refl; sources = refl; named = λ i. (refl, refl) }
    where
      places : list_right cpu_limit plant.cpus (λ j. cpu_right v (get_or (set plant.cpu c x) j hollow_cpu)) (λ j. cpu_blank (get_or (set plant.cpu c x) j hollow_cpu)) ≡ true
      places = list_replaced cpu_limit plant.cpus (cpu_right v) cpu_blank plant.cpu c x hollow_cpu (cpus_part_lem v plant e) h r

      whole : plant_keeps v (with_cpu plant c x) ≡ true
      whole = rw (first_part v plant e, places) (sources_part_lem v plant e)

  -- a source replaced by one of the same name
  pub source_replaced : (i : ℕ) (s : Source) → i < plant.sources → source_right plant s ≡ true → s.devhandle ≡ (source_at plant i).devhandle → s.devino ≡ (source_at plant i).devino → Kept v plant (with_source plant i s)
  unfolding with_source plant_keeps source_right
  source_replaced i s h r a b = record {
    keeps = whole;
    core = omega arith;
    cpus = refl;
    sources = refl;
    named = λ j. (
      set_either (λ x. x.devhandle ≡ (source_at plant j).devhandle) plant.source i j s blank_source (λ q. rw q a) refl,
      set_either (λ x. x.devino ≡ (source_at plant j).devino) plant.source i j s blank_source (λ q. rw q b) refl,
    );
  }
    where
      places : list_right source_limit plant.sources (λ j. source_right plant (get_or (set plant.source i s) j blank_source)) (λ j. source_blank (get_or (set plant.source i s) j blank_source)) ≡ true
      places = list_replaced source_limit plant.sources (source_right plant) source_blank plant.source i s blank_source (sources_part_lem v plant e) h r

      whole : plant_keeps v (with_sources plant (set plant.source i s)) ≡ true
      whole = rw (first_part v plant e, cpus_part_lem v plant e) places

-- a cpu with one part replaced
module _ (v : ℕ → ℕ → Bool) (cpu : Cpu) (e : cpu_right v cpu ≡ true) where
  abbrev queues_part : Bool
  queues_part = all_below queue_limit (λ q. record_right v (queue_at cpu q))

  abbrev lists_part : Bool
  lists_part = tsbs_right v cpu.ctx0 && (tsbs_right v cpu.ctxnon0 && accepts (new_statistics v cpu.statistics))

  queues_part_lem : queues_part ≡ true
  unfolding cpu_right
  queues_part_lem = and_left queues_part lists_part e

  lists_part_lem : lists_part ≡ true
  unfolding cpu_right
  lists_part_lem = and_right queues_part lists_part e

  ctx0_part : tsbs_right v cpu.ctx0 ≡ true
  ctx0_part = and_left _ _ lists_part_lem

  ctxnon0_part : tsbs_right v cpu.ctxnon0 ≡ true
  ctxnon0_part = and_left (tsbs_right v cpu.ctxnon0) (accepts (new_statistics v cpu.statistics)) (and_right (tsbs_right v cpu.ctx0) _ lists_part_lem)

  statistics_part : accepts (new_statistics v cpu.statistics) ≡ true
  statistics_part = and_right (tsbs_right v cpu.ctxnon0) (accepts (new_statistics v cpu.statistics)) (and_right (tsbs_right v cpu.ctx0) _ lists_part_lem)

  pub queue_right : (q : ℕ) → q < queue_limit → record_right v (queue_at cpu q) ≡ true
  queue_right q h = all_at (λ q. record_right v (queue_at cpu q)) queue_limit q queues_part_lem h

  pub with_queue_lem : (q : ℕ) (held : QueueRecord) → record_right v held ≡ true → cpu_right v (cpu_with_queue cpu q held) ≡ true
  unfolding cpu_right
  with_queue_lem q held r =
      rw (all_of (λ j. record_right v (queue_at (cpu_with_queue cpu q held) j)) queue_limit (λ j h. set_either (λ (x : Queue). record_right v x.held ≡ true) cpu.queue q j (record { held = held }) blank_queue (λ z. r) (queue_right j h)))
      lists_part_lem

  pub with_ctx0_lem : (l : Tsbs) → tsbs_right v l ≡ true → cpu_right v (cpu_with_ctx0 cpu l) ≡ true
  unfolding cpu_right
  with_ctx0_lem l r = rw (queues_part_lem, r, ctxnon0_part) statistics_part

  pub with_ctxnon0_lem : (l : Tsbs) → tsbs_right v l ≡ true → cpu_right v (cpu_with_ctxnon0 cpu l) ≡ true
  unfolding cpu_right
  with_ctxnon0_lem l r = rw (queues_part_lem, ctx0_part, r) statistics_part

  pub with_statistics_lem : (a : ℕ) → accepts (new_statistics v a) ≡ true → cpu_right v (cpu_with_statistics cpu a) ≡ true
  unfolding cpu_right
  with_statistics_lem a r = rw (queues_part_lem, ctx0_part, ctxnon0_part) r
