-- An event on tables that keep the rules, with memory that is long enough, comes to what its owner answers.
use Rattle.std.proofs.Common.{Option}
use mathlib.Core.Path.{◌≡◌}
use mathlib.Core.Bool.{true}
use mathlib.Core.List.{List}
use Prim.Native.Nat.{ℕ, ◌≤◌, ◌<◌}
use lib.ListN.{length}
use Rattle.rules.specs.declared.Event.{Event}
use Rattle.rules.specs.declared.Tables.{Tables}
use Rattle.rules.specs.Limits.{extent_limit}
use Rattle.rules.specs.Kept.{guest_at}
use Rattle.rules.specs.Tables.{keep_rules}
use Rattle.rules.specs.Host.{HostOutcome, owner_of, long_enough, answered_by, host_rule, host_outcome_of, host_event}
use Rattle.tables.proofs.SoundTables.{extents_keep_lem, extents_few}

module _ (tables : Tables) (memory : List ℕ) (event : Event) (keep : keep_rules tables ≡ true) (long : long_enough tables (length memory) ≡ true) where
  -- what the owner's answer comes to
  abbrev pub settled : Option ℕ → HostOutcome
  settled w = host_outcome_of tables memory (answered_by tables memory event w)

  pub event_settled : host_event tables memory event ≡ settled (owner_of tables event)
  unfolding host_event host_rule
  event_settled = rw (keep, long)

  pub few : (g : ℕ) → g < tables.guests → (guest_at tables g).extents.extents ≤ extent_limit
  few g h = extents_few _ (extents_keep_lem tables keep g h)
