-- The host's memory by offset, and a single write of a guest.
use Rattle.rules.specs.declared.Host.{Host}
use Rattle.std.specs.Prelude.{Bool, true, false, ◌&&◌, ◌||◌, List, [], ◌∷◌, ℕ, ◌+◌, ◌*◌, leb, get_or, Option, Some, None}
use Rattle.rules.specs.declared.Extent.{Extent}
use Rattle.rules.specs.Limits.{page_size}
use Rattle.rules.specs.Real.{Write}

-- the byte of the host's memory at an offset
abbrev pub cell : List ℕ → ℕ → ℕ
cell memory i = get_or memory i 0

-- the host offset k is in the extent's host pages, or in those of one of the extents
abbrev pub within : Extent → ℕ → Bool
within x k = leb (x.host * page_size) k && leb (k + 1) ((x.host + x.count) * page_size)

unfoldable pub owns : List Extent → ℕ → Bool
owns [] k = false
owns (x ∷ xs) k = within x k || owns xs k

-- a real address lies somewhere
abbrev pub somewhere : Option Host → Bool
somewhere None = false
somewhere (Some h) = true

-- the list of one write
abbrev pub one : ℕ → List ℕ → List Write
one a vs = record { at = a; bytes = vs } ∷ []
