-- What a function that writes a text leaves, and the text of a number in a base of at most 16.
use Rattle.std.specs.Prelude.{◌≡◌, List, [], ◌∷◌, ℕ, ◌+◌, ltb, length, map, if◌then◌else◌}
use Rattle.std.specs.Int.Digits.{digits_of}
use Rattle.std.proofs.lemmas.List.Edits.{sets}
use Rattle.rules.specs.Text.{digit_byte}

-- an array that was m is o: the text stands there from the place at on, and every other byte is as it was; r is the place behind it
pub record Put (m o : List ℕ) (at r : ℕ) (text : List ℕ) : Type 0 where
  pub behind : r ≡ at + length text
  pub bytes : o ≡ sets m at text

-- the digits, with no leading zeros: one at least
unfoldable pub numeral : ℕ → ℕ → List ℕ
numeral base n = if ltb n base then digit_byte n ∷ [] else map digit_byte (digits_of base n)
