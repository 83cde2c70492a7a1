-- What no event takes from a host that passes 101 and 102.
use mathlib.Core.Path.{◌∙◌}
use mathlib.Core.List.{List, [], ◌∷◌}
use Prim.Native.Nat.{ℕ}
use lib.ListN.{length}
use Rattle.rules.specs.declared.Event.{Event}
use Rattle.rules.specs.declared.Tables.{Tables}
use Rattle.rules.specs.Host.{host_event}
use Rattle.kept.proofs.Tables.{event_keeps}
use Rattle.kept.proofs.Steady.{Steady, steady_same, steady_further, event_steady, long_same}
use Rattle.promises.specs.Words.{Passes, tables_after, memory_after}

-- A host that passes 101 and 102 does so after every event.
pub passes_next : (tables : Tables) (memory : List ℕ) → Passes tables memory → (e : Event) → Passes (host_event tables memory e).tables (host_event tables memory e).memory
passes_next tables memory p e =
    let s = event_steady tables memory e p.keep p.long in
    record {
      keep = event_keeps tables memory e p.keep;
      long = rw s.1 (long_same tables (host_event tables memory e).tables s.0 (length memory) ∙ p.long);
    }

-- So it does after any events, which leave what no event changes.
pub passes_after : (events : List Event) (tables : Tables) (memory : List ℕ) → Passes tables memory → Passes (tables_after tables memory events) (memory_after tables memory events)
unfolding tables_after memory_after
passes_after [] tables memory p = p
passes_after (e ∷ es) tables memory p = passes_after es (host_event tables memory e).tables (host_event tables memory e).memory (passes_next tables memory p e)

pub steady_after : (events : List Event) (tables : Tables) (memory : List ℕ) → Passes tables memory → Steady tables (tables_after tables memory events)
unfolding tables_after
steady_after [] tables memory p = steady_same tables
steady_after (e ∷ es) tables memory p =
    steady_further tables (host_event tables memory e).tables _ (event_steady tables memory e p.keep p.long).0
    (steady_after es (host_event tables memory e).tables (host_event tables memory e).memory (passes_next tables memory p e))
