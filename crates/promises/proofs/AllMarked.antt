-- Promise: a mondo send whose list reads nothing but 0xffff does nothing.
use mathlib.Core.Path.{◌≡◌, refl}
use mathlib.Core.Bool.{true, ◌&&◌}
use mathlib.Core.List.{List, [], ◌∷◌}
use Prim.Native.Nat.{ℕ, ◌+◌, ◌*◌, ◌%◌}
use lib.Dec.{ltb, eqb}
use Rattle.rules.specs.declared.Call.{Call}
use Rattle.rules.specs.declared.Event.{Event}
use Rattle.rules.specs.declared.Function.{Function}
use Rattle.rules.specs.declared.Plant.{Plant}
use Rattle.rules.specs.declared.Refusal.TheVariants.{NoCaller, EINVAL, EBADALIGN, ENORADDR}
use Rattle.rules.specs.declared.Tables.{Tables}
use Rattle.rules.specs.Kept.{plant_at, extents_of}
use Rattle.rules.specs.Scan.{◌is_from◌to◌}
use Rattle.rules.specs.Real.{Sight, sight_of, bytes_from}
use Rattle.rules.specs.Rulings.{Ruling, Outcome, outcome_of, ◌or_refuse◌then◌, done}
use Rattle.rules.specs.Mondo.{listed_cpu, listed_cpus, is_caller, is_stranger, send_one, send_all, cpu_mondo_send}
use Rattle.rules.specs.Calls.{perform}
use Rattle.rules.specs.Host.{plant_rule, host_event}
use Rattle.rules.proofs.Listed.{Each, listed_each}
use Rattle.rules.proofs.Scan.{none_of}
use Rattle.promises.specs.Words.{Unchanged}
use Rattle.promises.specs.Machine.{did, machine_of}
use Rattle.promises.specs.Resent.{MondoCall, AllMarked}
use Rattle.promises.specs.Promises.{AllMarkedSends}
use Rattle.promises.proofs.Door.{at_call}
use Rattle.promises.proofs.Granting.{Granting, by_then, by_outcome, by_call}
use Rattle.promises.proofs.Refusals.{puts_nothing}

none_sent : (plant : Plant) (list packet : List ℕ) (mark : ℕ) → Each (λ x. x ≡ 0xffff) list → send_all plant list packet mark ≡ record { plant = plant; all = true; writes = [] }
unfolding send_all send_one
none_sent plant [] packet mark each = refl
none_sent plant (x ∷ xs) packet mark each = rw (each.0, none_sent plant xs packet (mark + 2) each.1)

module _ (sight : Sight) (plant : Plant) (c : Call) (marked : AllMarked sight c) where
  -- the tests that come before the list is read
  abbrev before : Ruling Outcome → Ruling Outcome
  before rest =
      (c.arg0 is_from 1 to 64) or_refuse EINVAL then
      (eqb (c.arg2 % 64) 0 && eqb (c.arg1 % 2) 0) or_refuse EBADALIGN then
      (sight.valid c.arg2 64 && sight.valid c.arg1 (2 * c.arg0)) or_refuse ENORADDR then
      rest

  by_tests : cpu_mondo_send sight plant c.cpu c.arg0 c.arg1 c.arg2 ≡ before (done plant)
  unfolding cpu_mondo_send
  by_tests =
      rw (
        none_of (λ i. is_caller c.cpu (listed_cpu sight.byte c.arg1 i)) c.arg0 (λ i h. rw (marked i h)),
        none_of (λ i. is_stranger plant.cpus (listed_cpu sight.byte c.arg1 i)) c.arg0 (λ i h. rw (marked i h)),
        none_sent plant (listed_cpus sight.byte c.arg1 c.arg0) (bytes_from sight.byte c.arg2 64) c.arg1 (listed_each sight.byte c.arg1 (λ x. x ≡ 0xffff) c.arg0 marked),
      )

  -- the plant's record stays, and nothing is written
  abbrev Nothing : Outcome → Type 0
  Nothing o = (o.plant ≡ plant) × (o.writes ≡ [])

  performs_nothing : Granting Nothing (before (done plant))
  performs_nothing =
      by_then Nothing (c.arg0 is_from 1 to 64) EINVAL _
      (by_then Nothing (eqb (c.arg2 % 64) 0 && eqb (c.arg1 % 2) 0) EBADALIGN _
      (by_then Nothing (sight.valid c.arg2 64 && sight.valid c.arg1 (2 * c.arg0)) ENORADDR _ (refl, refl)))

  does_nothing : MondoCall c → Nothing (outcome_of plant (plant_rule sight plant (Event.Call c)))
  unfolding plant_rule perform
  does_nothing f =
      by_outcome Nothing plant (plant_rule sight plant (Event.Call c)) (λ r. (refl, refl))
      (by_then Nothing (ltb c.cpu plant.cpus) NoCaller _ (by_call Nothing sight plant c (λ g e. let same : g ≡ Function.CpuMondoSend = cc in rw (same, by_tests) performs_nothing)))

leaves_all : (tables : Tables) (memory : List ℕ) (c : Call) → MondoCall c → AllMarked (machine_of tables memory c.guest).sight c → Unchanged tables memory (host_event tables memory (Event.Call c))
leaves_all tables memory c f marked =
    let s = does_nothing (sight_of (extents_of tables c.guest) memory) (plant_at tables c.guest) c marked f in
    at_call (Unchanged tables memory) tables memory c (λ _ _. (refl, refl))
    (puts_nothing tables memory c.guest (did (machine_of tables memory c.guest) (Event.Call c)) s.0 s.1)

pub all_marked : AllMarkedSends
all_marked = record { rule = by_tests; unchanged = leaves_all }
