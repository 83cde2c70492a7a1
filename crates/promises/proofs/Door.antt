-- What an event comes to on a host, by the way in: the door (101, 102), the owner (103, 104), and then the owner's plant. Nothing is
-- asked of the tables and the memory.
use Rattle.std.proofs.Common.{Option, Some, None}
use mathlib.Core.Path.{◌≡◌, refl, subst}
use mathlib.Core.Bool.{Bool, true, false}
use mathlib.Core.List.{List}
use Prim.Native.Nat.{ℕ, ◌≤◌}
use native.Mathlib.Omega.{arith}
use lib.Dec.{ltb}
use lib.ListN.{length}
use Rattle.rules.specs.declared.Call.{Call}
use Rattle.rules.specs.declared.Event.{Event}
use Rattle.rules.specs.declared.Refusal.{Refusal}
use Rattle.rules.specs.declared.Refusal.TheVariants.{BadTables, ShortMemory, NoCaller, NoSource}
use Rattle.rules.specs.declared.Tables.{Tables}
use Rattle.rules.specs.Rulings.{refused, granted, ◌or_refuse◌then◌}
use Rattle.rules.specs.Statuses.{status_of}
use Rattle.rules.specs.Tables.{keep_rules}
use Rattle.rules.specs.Host.{HostOutcome, long_enough, owner_of, put_back, answered_by, host_outcome_of, host_rule, host_event}
use Rattle.promises.specs.Machine.{did, machine_of}

module _ (P : HostOutcome → Type 0) (tables : Tables) (memory : List ℕ) (event : Event) where
  -- P holds of what each refusal of the way in leaves, and of what the owner's plant did, put back in its place
  pub at_door : ((r : Refusal) → 101 ≤ status_of r → P (host_outcome_of tables memory (refused r)))
      → ((g : ℕ) → keep_rules tables ≡ true → ltb g tables.guests ≡ true → owner_of tables event ≡ Some g → P (put_back tables memory g (did (machine_of tables memory g) event)))
      → P (host_event tables memory event)
  unfolding host_event host_rule status_of
  at_door left done = door (keep_rules tables) (long_enough tables (length memory)) refl
    where
      there : keep_rules tables ≡ true → (g : ℕ) → owner_of tables event ≡ Some g → (t : Bool) → ltb g tables.guests ≡ t
          → P (host_outcome_of tables memory (t or_refuse NoCaller then granted (put_back tables memory g (did (machine_of tables memory g) event))))
      there keep g owner true e = done g keep e owner
      there keep g owner false e = left NoCaller (omega arith)

      owned : keep_rules tables ≡ true → (w : Option ℕ) → owner_of tables event ≡ w → P (host_outcome_of tables memory (answered_by tables memory event w))
      owned keep None owner = left NoSource (omega arith)
      owned keep (Some g) owner = there keep g owner (ltb g tables.guests) refl

      door : (t u : Bool) → keep_rules tables ≡ t
          → P (host_outcome_of tables memory (t or_refuse BadTables then u or_refuse ShortMemory then answered_by tables memory event (owner_of tables event)))
      door true true keep = owned keep (owner_of tables event) refl
      door true false keep = left ShortMemory (omega arith)
      door false u keep = left BadTables (omega arith)

  -- of an event whose owner is known
  pub at_owner : (g : ℕ) → owner_of tables event ≡ Some g
      → ((r : Refusal) → 101 ≤ status_of r → P (host_outcome_of tables memory (refused r)))
      → P (put_back tables memory g (did (machine_of tables memory g) event))
      → P (host_event tables memory event)
  at_owner g owner left done =
      at_door left (λ h _ _ other.
      let same : g ≡ h = cc in
      subst (λ h. P (put_back tables memory h (did (machine_of tables memory h) event))) same done)

-- a call's owner is the guest that it names
pub at_call : (P : HostOutcome → Type 0) (tables : Tables) (memory : List ℕ) (c : Call)
    → ((r : Refusal) → 101 ≤ status_of r → P (host_outcome_of tables memory (refused r)))
    → P (put_back tables memory c.guest (did (machine_of tables memory c.guest) (Event.Call c)))
    → P (host_event tables memory (Event.Call c))
unfolding owner_of
at_call P tables memory c = at_owner P tables memory (Event.Call c) c.guest refl
