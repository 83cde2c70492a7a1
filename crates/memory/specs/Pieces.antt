-- The pieces of a range: what of it lies in one extent is one run of host bytes.
use Rattle.std.specs.Prelude.{cond, List, [], ◌∷◌, ℕ, ◌-◌, min}
use Rattle.rules.specs.declared.Extent.{Extent}
use Rattle.rules.specs.Real.{high, host_offset, holds}
use Rattle.memory.specs.declared.extents.Piece.{Piece}

-- of the n bytes from a on, those that lie in the extent x, which has a
unfoldable pub part_of : Extent → ℕ → ℕ → Piece
part_of x a n = record { at = host_offset x (record { 0 = a }); len = min n (high x - a) }

-- those that lie in the extent that has a; none if there is no such extent
unfoldable pub piece_of : List Extent → ℕ → ℕ → Piece
piece_of [] a n = record { at = record { 0 = 0 }; len = 0 }
piece_of (x ∷ xs) a n = cond (holds x a) (part_of x a n) (piece_of xs a n)
