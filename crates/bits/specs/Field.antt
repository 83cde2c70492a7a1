-- What reading a field of bits answers.
use Rattle.std.specs.Prelude.{◌&&◌, ℕ, ◌+◌, List, leb, if◌then◌else◌, Option, Some, None}
use Rattle.rules.specs.Bits.{field_at, reaches}

-- a field of at most 28 bits that lies in the bytes has its number
unfoldable pub field_of : List ℕ → ℕ → ℕ → Option ℕ
field_of bytes at n = if leb n 28 && reaches bytes (at + n) then Some (field_at bytes at n) else None
