-- What the tests are that the searches take.
use Rattle.std.specs.Prelude.{◌≡◌, Bool, ℕ, ◌<◌}
use Rattle.rules.specs.declared.Extents.{Extents}

-- each call of a test says whether the rule holds of an extent
abbrev pub Holds : (Extents → ℕ → Bool → Type 0) → (Extents → ℕ → Bool) → Type 0
Holds post rule = (e : Extents) (i : ℕ) (b : Bool) → post e i b → b ≡ rule e i

-- each call of a test says whether two of n places clash
abbrev pub Clashes : (ℕ → ℕ → Bool → Type 0) → ℕ → (ℕ → ℕ → Bool) → Type 0
Clashes post n p = (i j : ℕ) (b : Bool) → i < j → j < n → post i j b → b ≡ p i j
