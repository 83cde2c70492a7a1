-- What the code of an event gives back, and what it leaves in memory.
use Rattle.std.specs.Prelude.{◌≡◌, List, ℕ}
use Rattle.rules.specs.Host.{HostOutcome}
use Rattle.host.specs.declared.Settled.{Settled}

-- the answer, the tables and the memory after are those of the outcome
pub record Settles (outcome : HostOutcome) (s : Settled) (after : List ℕ) : Type 0 where
  pub answer : s.answer ≡ outcome.answer
  pub tables : s.tables ≡ outcome.tables
  pub memory : after ≡ outcome.memory
