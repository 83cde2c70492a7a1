-- What writing bits into bytes leaves: bit by bit, each with zeros behind it in its byte.
use Rattle.std.specs.Prelude.{List, [], ◌∷◌, ℕ, ◌+◌, ◌-◌, ◌*◌, ◌/◌, ◌%◌, ◌^◌, get_or, set}

-- a byte whose bits before bit k stay, whose bit k is `bit`, and whose bits behind it are 0
unfoldable pub with_bit : ℕ → ℕ → ℕ → ℕ
with_bit byte k bit = byte / 2 ^ (8 - k) * 2 ^ (8 - k) + bit * 2 ^ (7 - k)

unfoldable pub put_bit : List ℕ → ℕ → ℕ → List ℕ
put_bit bytes i bit = set bytes (i / 8) (with_bit (get_or bytes (i / 8) 0) (i % 8) bit)

-- a row of bits from bit `at` on
unfoldable pub put_bits : List ℕ → ℕ → List ℕ → List ℕ
put_bits bytes at [] = bytes
put_bits bytes at (bit ∷ bits) = put_bits (put_bit bytes at bit) (at + 1) bits
