-- What the tables' checks (101 and 102) tell of a guest's extents and the host's memory, as facts.
use Rattle.std.specs.Prelude.{ℕ, ◌+◌, ◌*◌, ◌≤◌, List, [], ◌∷◌}
use Rattle.rules.specs.declared.Extent.{Extent}
use Rattle.rules.specs.Limits.{page_size}
pub use Rattle.rules.specs.Kept.{present}
use Rattle.rules.specs.Real.{low, high}

-- every extent of the list starts at or past the end of x
abbrev pub After : Extent → List Extent → Type 0
After x [] = Unit {0}
After x (y ∷ ys) = (high x ≤ low y) × After x ys

-- "a guest's extents ascend in real page without overlap"
abbrev pub Apart : List Extent → Type 0
Apart [] = Unit {0}
Apart (x ∷ xs) = After x xs × Apart xs

-- a memory of n bytes does not end before the end of any extent's host pages
abbrev pub Long : List Extent → ℕ → Type 0
Long [] n = Unit {0}
Long (x ∷ xs) n = ((x.host + x.count) * page_size ≤ n) × Long xs n

pub record Ready (extents : List Extent) (n : ℕ) : Type 0 where
  pub apart : Apart extents
  pub long : Long extents n
