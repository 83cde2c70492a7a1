-- A whole input in pieces, as a program feeds it: the words of the promise that its pieces do not matter.
use Rattle.std.specs.Prelude.{List, [], ◌∷◌, ◌++◌, ℕ, ◌*◌, ◌≤◌, length}
use Rattle.session.specs.declared.feeder.Feeder.{Feeder}
use Rattle.session.specs.Feeding.{Progress, feed_of, ending}

-- the feeder that a piece leaves
abbrev pub kept : Progress → Feeder
kept p = record { tables = p.session.tables; line = p.line; held = p.held }

-- what is printed: each piece is fed to what the one before left, and then the end
unfoldable pub in_pieces : List ℕ → Feeder → List ℕ → List (List ℕ) → List ℕ
in_pieces out feeder memory [] = (feed_of feeder memory (ending feeder.held) out).text
in_pieces out feeder memory (piece ∷ pieces) =
    let p : Progress = feed_of feeder memory piece out in
    p.text ++ in_pieces out (kept p) p.session.memory pieces

-- the input that the pieces make
unfoldable pub joined_up : List (List ℕ) → List ℕ
joined_up [] = []
joined_up (piece ∷ pieces) = piece ++ joined_up pieces

-- each has room for its answers
unfoldable pub Roomy : List ℕ → List (List ℕ) → Type 0
Roomy out [] = 96 ≤ length out
Roomy out (piece ∷ pieces) = (96 * length piece ≤ length out) × Roomy out pieces
