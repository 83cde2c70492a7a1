-- The steps of a raise that are functions of their own in the code.
use Rattle.std.specs.Prelude.{◌≡◌, ℕ, eqb, if◌then◌else◌}
use Rattle.rules.specs.declared.Answer.TheVariants.{One}
use Rattle.rules.specs.declared.Source.{Source}
use Rattle.rules.specs.Kept.{with_state}
use Rattle.plants.specs.declared.change.Change.{Change}
use Rattle.plants.specs.declared.change.Done.{Done}
use Rattle.plants.specs.Changes.{done_by}

-- word 0 of the entry of a source at position i, under that version
unfoldable pub word_of : ℕ → ℕ → Source → ℕ
word_of version i s = if eqb version 2 then s.cookie else i

-- the state of a source at position i is set, and answered
unfoldable pub becoming : ℕ → Source → ℕ → Done
becoming i s state = done_by (One state) (Change.Source i (with_state s state))

-- a source that delivers to its target, if the ring there has room
pub record Delivers (s : Source) : Type 0 where
  pub waits : s.state ≡ 2 → ⊥
  pub enabled : s.enabled ≡ 1
