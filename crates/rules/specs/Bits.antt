-- "fields follow each other without gaps, most significant bit first": bytes as bits in a row.
use Rattle.std.specs.Prelude.{Bool, ℕ, zero, suc, ◌+◌, ◌-◌, ◌*◌, ◌/◌, ◌%◌, ◌^◌, List, [], ◌∷◌, ◌++◌, length, get_or, leb}

-- bit i: of byte i / 8, the most significant bit first
unfoldable pub bit_at : List ℕ → ℕ → ℕ
bit_at bytes i = get_or bytes (i / 8) 0 / 2 ^ (7 - i % 8) % 2

-- the number whose n binary digits are the bits from `at` on
unfoldable pub field_at : List ℕ → ℕ → ℕ → ℕ
field_at bytes at zero = 0
field_at bytes at (suc n) = field_at bytes at n * 2 + bit_at bytes (at + n)

-- the bytes have all the bits before bit `end`
abbrev pub reaches : List ℕ → ℕ → Bool
reaches bytes end = leb end (8 * length bytes)

-- The other way, for a writer (request No. 2): bits in a row, and the bytes that they are packed into.

-- the n binary digits of a number, most significant first
unfoldable pub bits_of : ℕ → ℕ → List ℕ
bits_of zero v = []
bits_of (suc n) v = bits_of n (v / 2) ++ (v % 2 ∷ [])

-- the number whose n binary digits are the bits of a row from `at` on; past its end they are 0
unfoldable pub number_at : List ℕ → ℕ → ℕ → ℕ
number_at bits at zero = 0
number_at bits at (suc n) = number_at bits at n * 2 + get_or bits (at + n) 0

-- the first k bytes, each of eight bits
unfoldable pub packed_bytes : List ℕ → ℕ → List ℕ
packed_bytes bits zero = []
packed_bytes bits (suc k) = packed_bytes bits k ++ (number_at bits (8 * k) 8 ∷ [])

-- as many bytes as the bits need. "Zero bits fill the last byte."
unfoldable pub packed : List ℕ → List ℕ
packed bits = packed_bytes bits ((length bits + 7) / 8)
