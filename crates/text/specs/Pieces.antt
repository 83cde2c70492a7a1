-- A line cut at its spaces: what the code answers of a part of it.
use Rattle.std.specs.Prelude.{ℕ, suc, List, [], ◌∷◌, eqb, if◌then◌else◌, Option}
use Rattle.rules.specs.Text.{space, pieces, digits, paired_or}

-- the length of the first piece
unfoldable pub first_length : List ℕ → ℕ
first_length [] = 0
first_length (b ∷ bs) = if eqb b space then 0 else suc (first_length bs)

-- the pieces behind a piece: none, or those behind the space
unfoldable pub behind : List ℕ → List (List ℕ)
behind [] = []
behind (b ∷ bs) = pieces [] bs

-- the bytes but for the spaces
unfoldable pub unspaced : List ℕ → List ℕ
unspaced [] = []
unspaced (b ∷ bs) = if eqb b space then unspaced bs else b ∷ unspaced bs

-- the bytes of an image, whose text is given
unfoldable pub image_at : List ℕ → Option (List ℕ)
image_at text = paired_or (digits (unspaced text))
