-- What the tests are that a list's check takes.
use Rattle.std.specs.Prelude.{◌≡◌, Bool}

-- each call of a test says whether p holds of the record
abbrev pub Tests : {A : Type 0} → (A → Bool → Type 0) → (A → Bool) → Type 0
Tests {A} post p = (x : A) (r : Bool) → post x r → r ≡ p x
