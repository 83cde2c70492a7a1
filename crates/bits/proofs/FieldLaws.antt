-- Laws of bits and fields: how a field grows by a bit, and what each answer is and tells.
use Rattle.std.proofs.Common.{if◌then◌else◌, Some, None}
use borrow.Author.Tests.{le-leb, lt-leb, leb-true, leb-false}
use mathlib.Core.Bool.{Bool, true, false, ◌&&◌}
use mathlib.Core.Path.{◌≡◌, refl}
use mathlib.Core.List.{List}
use Prim.Native.Nat.{ℕ, zero, suc, ◌+◌, ◌-◌, ◌*◌, ◌/◌, ◌%◌, ◌^◌, ◌<◌, ◌≤◌}
use native.Mathlib.Nat.{pow-suc}
use native.Mathlib.Numerals.{add-one}
use native.Mathlib.Omega.{arith}
use lib.ListN.{length, get_or}
use lib.Dec.{leb}
use lib.Pow.{pow_mono}
use Rattle.rules.specs.Bits.{bit_at, field_at, reaches}
use Rattle.bits.specs.Field.{field_of}

-- a bit, by its byte and any place that has the same remainder by 8
pub bit_there : (s : List ℕ) (i j p : ℕ) → j ≡ i / 8 → p % 8 ≡ i % 8 → get_or s j 0 / 2 ^ (7 - p % 8) % 2 ≡ bit_at s i
unfolding bit_at
bit_there s i j p e f = cc

pub field_lt : (s : List ℕ) (at n : ℕ) → field_at s at n < 2 ^ n
unfolding field_at bit_at
field_lt s at zero = omega arith
field_lt s at (suc n) = omega (arith, field_lt s at n, pow-suc 2 n)

-- a field of at most 31 bits has room for one more
pub field_room : (s : List ℕ) (at k v : ℕ) → k ≤ 31 → v ≡ field_at s at k → v < 2 ^ 31
field_room s at k v h e = omega (arith, field_lt s at k, pow_mono h)

-- a field of n bits fits n bits
pub field_fits : (s : List ℕ) (at n v : ℕ) → v ≡ field_at s at n → v < 2 ^ n
field_fits s at n v e = omega (arith, field_lt s at n)

pub field_next : (s : List ℕ) (at k v b r : ℕ) → v ≡ field_at s at k → b ≡ bit_at s (at + k) → r ≡ v * 2 + b → r ≡ field_at s at (k + 1)
unfolding field_at
field_next s at k v b r e f g = rw add-one (omega arith)

-- the three answers
pub field_wide : (s : List ℕ) (at n : ℕ) → 28 < n → None ≡ field_of s at n
unfolding field_of
field_wide s at n h = simp (lt-leb n 28 h)

pub field_missing : (s : List ℕ) (at n : ℕ) → n ≤ 28 → 8 * length s < at + n → None ≡ field_of s at n
unfolding field_of
field_missing s at n h l = simp (le-leb n 28 h, lt-leb (at + n) (8 * length s) l)

pub field_value : (s : List ℕ) (at n v : ℕ) → n ≤ 28 → at + n ≤ 8 * length s → v ≡ field_at s at n → Some v ≡ field_of s at n
unfolding field_of
field_value s at n v h l e = simp (le-leb n 28 h, le-leb (at + n) (8 * length s) l) (cc)

-- what an answer tells
was_missing : (t u : Bool) (v : ℕ) → None ≡ (if t && u then Some v else None) → t ≡ true → u ≡ false
was_missing true true v e h = cc
was_missing true false v e h = refl
was_missing false u v e h = cc

was_value : (t u : Bool) (v w : ℕ) → Some w ≡ (if t && u then Some v else None) → (u ≡ true) × (w ≡ v)
was_value true true v w e = (refl, cc)
was_value true false v w e = (cc, cc)
was_value false u v w e = (cc, cc)

pub missing_tells : (s : List ℕ) (at n : ℕ) → n ≤ 28 → None ≡ field_of s at n → 8 * length s < at + n
unfolding field_of
missing_tells s at n h e = leb-false _ _ (was_missing (leb n 28) (reaches s (at + n)) (field_at s at n) e (le-leb n 28 h))

pub value_tells : (s : List ℕ) (at n v : ℕ) → Some v ≡ field_of s at n → (at + n ≤ 8 * length s) × (v ≡ field_at s at n)
unfolding field_of
value_tells s at n v e =
    let w = was_value (leb n 28) (reaches s (at + n)) (field_at s at n) v e in
    (leb-true _ _ w.0, w.1)
