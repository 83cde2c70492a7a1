-- The loop that moves the tails of several rings: after i turns those of the first i cpus are moved.
use mathlib.Core.Path.{◌≡◌, refl, ap, ◌∙◌}
use mathlib.Core.List.{List}
use Prim.Native.Nat.{ℕ, ◌+◌}
use lib.ListN.{get_or}
use Rattle.rules.specs.declared.Cpu.{Cpu}
use Rattle.rules.specs.declared.Plant.{Plant}
use Rattle.rules.specs.Kept.{hollow_cpu, cpu_at, with_cpu}
use Rattle.plants.specs.Changes.{cpu_at_tail, map_first, with_tails}
use Rattle.plants.proofs.MapLaws.{map_next}

module _ (plant : Plant) (tails : List ℕ) where
  abbrev tail_at : ℕ → Cpu → Cpu
  tail_at c cpu = cpu_at_tail cpu (get_or tails c 0)

  abbrev pub tailed : ℕ → Plant
  tailed i = record { versions = plant.versions; cpus = plant.cpus; cpu = map_first tail_at i plant.cpu; sources = plant.sources; source = plant.source }

  pub tails_none : plant ≡ tailed 0
  unfolding map_first
  tails_none = refl

  pub tails_next : (next : Plant) (i : ℕ) (new : Cpu) → next ≡ tailed i → new ≡ cpu_at_tail (cpu_at next i) (get_or tails i 0) → with_cpu next i new ≡ tailed (i + 1)
  tails_next next i new e n =
      ap (with_cpu next i) n
      ∙ ap (λ (p : Plant). with_cpu p i (cpu_at_tail (cpu_at p i) (get_or tails i 0))) e
      ∙ (λ j. record { versions = plant.versions; cpus = plant.cpus; cpu = map_next tail_at plant.cpu (map_first tail_at i plant.cpu) i hollow_cpu refl j; sources = plant.sources; source = plant.source })

  pub tails_all : (next : Plant) (i : ℕ) → next ≡ tailed i → i ≡ plant.cpus → next ≡ with_tails plant tails
  unfolding with_tails
  tails_all next i e n = e ∙ ap tailed n
