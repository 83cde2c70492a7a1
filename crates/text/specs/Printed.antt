-- The lines that the session program prints, each with its line feed.
use Rattle.std.specs.Prelude.{ℕ, List, [], ◌∷◌, ◌++◌, take}
use Rattle.rules.specs.declared.Answer.{Answer}
use Rattle.rules.specs.Types.{Loading}
use Rattle.rules.specs.Statuses.{numbers, loading_numbers}
use Rattle.rules.specs.Text.{line_feed, word_bad, spaced}

-- the first so many of these numbers
unfoldable pub numbers_text : ℕ → List ℕ → List ℕ
numbers_text count ns = spaced (take count ns) ++ (line_feed ∷ [])

-- an event's "status and four values"
unfoldable pub answer_text : Answer → List ℕ
answer_text answer = spaced (numbers answer) ++ (line_feed ∷ [])

-- an image's "status and two values"
unfoldable pub loading_text : Loading → List ℕ
loading_text answer = spaced (loading_numbers answer) ++ (line_feed ∷ [])

abbrev pub bad_text : List ℕ
bad_text = word_bad ++ (line_feed ∷ [])
