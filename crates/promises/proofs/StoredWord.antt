-- Not vacuous: on every host that passes 101 and 102, a guest that stores a word where it may, loads it.
use mathlib.Core.Path.{◌≡◌, refl, sym, ap, ◌∙◌}
use mathlib.Core.Bool.{true}
use Prim.Native.Nat.{ℕ, ◌%◌, ◌^◌, ◌<◌}
use native.Mathlib.Omega.{arith}
use borrow.Author.Tests.{eq-eqb}
use Rattle.rules.specs.declared.Answer.TheVariants.{Done, One}
use Rattle.rules.specs.Kept.{extents_of}
use Rattle.rules.specs.Real.{Sight, valid, word_bytes}
use Rattle.rules.specs.Rulings.{Outcome}
use Rattle.rules.specs.Memory.{whole_word, store_word, load_word}
use Rattle.rules.specs.Host.{HostOutcome, plant_rule, owner_of}
use Rattle.rules.proofs.Examples.{next}
use Rattle.rules.proofs.AcceptedCalls.{storing, loading}
use Rattle.memory.specs.Cells.{one}
use Rattle.memory.proofs.Places.{valid_part}
use Rattle.memory.proofs.Sights.{over, stored_word}
use Rattle.promises.specs.Words.{Passes}
use Rattle.promises.specs.Machine.{Machine, all_written, did, machine_of}
use Rattle.promises.proofs.WrittenBytes.{over_written}
use Rattle.promises.proofs.AloneSteps.{own_step}
use Rattle.promises.proofs.NotVacuous.{event_passes, guests_stay}

module _ (o : HostOutcome) (p : Passes o.tables o.memory) (g : ℕ) (there : g < o.tables.guests) (address value : ℕ) (aligned : address % 8 ≡ 0) (own : valid (extents_of o.tables g) address 8 ≡ true) (word : value < 2 ^ 64) where
  abbrev before : Machine
  before = machine_of o.tables o.memory g

  stored : did before (storing g address value) ≡ record { answer = Done; plant = before.plant; writes = one address (word_bytes value) }
  unfolding plant_rule store_word whole_word
  stored = rw (eq-eqb (address % 8) 0 aligned, own)

  -- the machine after
  abbrev behind : Machine
  behind = record { plant = before.plant; sight = over before.sight address (word_bytes value) }

  loaded : (did behind (loading g address)).answer ≡ One value
  unfolding plant_rule load_word whole_word over word_bytes
  loaded = rw (eq-eqb (address % 8) 0 aligned, own) (ap One (stored_word value before.sight address word (λ j h. valid_part (extents_of o.tables g) address 8 j 1 own (omega arith))))

  first : ((next o (storing g address value)).answer ≡ Done) × (machine_of (next o (storing g address value)).tables (next o (storing g address value)).memory g ≡ behind)
  unfolding next owner_of all_written
  first =
      let s = own_step o.tables o.memory (storing g address value) p.keep p.long g there (eq-eqb g g refl) in (
        s.0 ∙ ap (λ (x : Outcome). x.answer) stored,
        s.1 ∙ ap (λ (x : Outcome). record { plant = x.plant; sight = all_written before.sight x.writes }) stored
            ∙ ap (λ (t : Sight). record { plant = before.plant; sight = t }) (sym (over_written (word_bytes value) before.sight address)),
      )

  -- The store is done, and the load after it tells the word.
  pub stored_is_loaded : ((next o (storing g address value)).answer ≡ Done) × ((next (next o (storing g address value)) (loading g address)).answer ≡ One value)
  unfolding next owner_of
  stored_is_loaded =
      let n : HostOutcome = next o (storing g address value) in
      let q = event_passes o p (storing g address value) in
      let there' : g < n.tables.guests = rw (guests_stay o p (storing g address value)) there in
      (first.0, (own_step n.tables n.memory (loading g address) q.keep q.long g there' (eq-eqb g g refl)).0 ∙ ap (λ (m : Machine). (did m (loading g address)).answer) first.1 ∙ loaded)
