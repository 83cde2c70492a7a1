-- The input cut at its line feeds: what the code answers of a part of it.
use Rattle.std.specs.Prelude.{ℕ, suc, List, [], ◌∷◌, eqb, if◌then◌else◌}
use Rattle.rules.specs.Text.{line_feed}

-- the length of the first line
unfoldable pub line_length : List ℕ → ℕ
line_length [] = 0
line_length (b ∷ bs) = if eqb b line_feed then 0 else suc (line_length bs)
