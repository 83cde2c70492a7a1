-- "A real address and a host offset": what a guest sees of memory through its extents. `located` is the only place that says
-- where a real address lies, and `valid` which ranges are a guest's own; every other rule speaks of a Sight.
use Rattle.std.specs.Prelude.{ℕ, zero, suc, ◌+◌, ◌-◌, ◌*◌, ◌/◌, ◌%◌, ◌^◌, Bool, ◌&&◌, cond, List, [], ◌∷◌, leb, ltb, get_or, set, Option, Some, None}
use Rattle.rules.specs.Types.{Real, Host, Extent}
use Rattle.rules.specs.Limits.{page_size}

-- "an extent maps real page r+i to host page h+i": its first real address, and the one past its last
abbrev pub low : Extent → ℕ
low x = x.real * page_size

abbrev pub high : Extent → ℕ
high x = (x.real + x.count) * page_size

-- the host offset of a real address of the extent
abbrev pub host_offset : Extent → Real → Host
host_offset x a = record { 0 = x.host * page_size + (a.0 - low x) }

-- the real address a is one of the extent's
abbrev pub holds : Extent → ℕ → Bool
holds x a = leb (low x) a && ltb a (high x)

-- where the real address a lies on the host
unfoldable pub located : List Extent → ℕ → Option Host
located [] a = None
located (x ∷ xs) a = cond (holds x a) (Some (host_offset x (record { 0 = a }))) (located xs a)

-- how far every address from a on lies in some extent: where an extent has the address that was reached, to that extent's end.
-- "a guest's extents ascend", so one that goes on from there stands behind it in the list.
unfoldable pub reach : List Extent → ℕ → ℕ
reach [] a = a
reach (x ∷ xs) a = reach xs (cond (holds x a) (high x) a)

-- "A range is valid .. if every one of its bytes lies in some extent of the guest": its end is reached. That this is each byte of
-- it, one by one, is the promise `each_byte`. The numbers here are unbounded, so that the sum cannot wrap; an extent ends far below
-- 2^64, so "a range that passes 2^64 is not" valid.
unfoldable pub valid : List Extent → ℕ → ℕ → Bool
valid extents a n = leb (a + n) (reach extents a)

-- the byte of the host's memory at a place; 0 where there is none
abbrev pub byte_there : List ℕ → Option Host → ℕ
byte_there memory None = 0
byte_there memory (Some h) = get_or memory h.0 0

-- the byte at the real address a
unfoldable pub byte_at : List Extent → List ℕ → ℕ → ℕ
byte_at extents memory a = byte_there memory (located extents a)

-- what a plant sees of memory: which ranges are its own, and the byte at each real address
pub record Sight : Type 0 where
  pub valid : ℕ → ℕ → Bool
  pub byte : ℕ → ℕ

abbrev pub sight_of : List Extent → List ℕ → Sight
sight_of extents memory = record { valid = valid extents; byte = byte_at extents memory }

-- "Memory is big-endian": the number that the k bytes from a on make, most significant first
unfoldable pub number_of : (ℕ → ℕ) → ℕ → ℕ → ℕ
number_of byte a zero = 0
number_of byte a (suc k) = number_of byte a k * 256 + byte (a + k)

-- the eight bytes of a word, most significant first
unfoldable pub word_bytes : ℕ → List ℕ
word_bytes v =
    v / 2 ^ 56 % 256
    ∷ v / 2 ^ 48 % 256
    ∷ v / 2 ^ 40 % 256
    ∷ v / 2 ^ 32 % 256
    ∷ v / 2 ^ 24 % 256
    ∷ v / 2 ^ 16 % 256
    ∷ v / 2 ^ 8 % 256
    ∷ v % 256
    ∷ []

-- the n bytes from a on
unfoldable pub bytes_from : (ℕ → ℕ) → ℕ → ℕ → List ℕ
bytes_from byte a zero = []
bytes_from byte a (suc n) = byte a ∷ bytes_from byte (suc a) n

-- a write of a guest: bytes from a real address on
pub record Write : Type 0 where
  pub at : ℕ
  pub bytes : List ℕ

-- the host's memory with a byte at a place
abbrev pub put_there : List ℕ → Option Host → ℕ → List ℕ
put_there memory None v = memory
put_there memory (Some h) v = set memory h.0 v

-- with bytes from the real address a on, each put where its own address lies
unfoldable pub put_bytes : List Extent → List ℕ → ℕ → List ℕ → List ℕ
put_bytes extents memory a [] = memory
put_bytes extents memory a (v ∷ vs) = put_bytes extents (put_there memory (located extents a) v) (suc a) vs

-- with a list of writes done, in order
unfoldable pub apply : List Extent → List ℕ → List Write → List ℕ
apply extents memory [] = memory
apply extents memory (w ∷ ws) = apply extents (put_bytes extents memory w.at w.bytes) ws
