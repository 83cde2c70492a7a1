-- Laws of rows of bits and of their writing: how a row splits, how writing follows a split, and what bits inside one byte leave.
use mathlib.Core.Path.{◌≡◌, refl, sym, ap, ◌∙◌}
use mathlib.Core.List.{List, [], ◌∷◌, ◌++◌, append-nil, append_assoc}
use Prim.Native.Nat.{ℕ, zero, suc, ◌+◌, ◌-◌, ◌*◌, ◌/◌, ◌%◌, ◌^◌, ◌<◌, ◌≤◌, min}
use native.Mathlib.Nat.{mod-lt, mod-eq_of_lt, div-mul-le_self, one-mul, add_assoc, add-zero, add-suc, pow-suc, div-one, add-mul, mul_assoc, mul_comm, div-add-mod'}
use native.Mathlib.Numerals.{add-one, one-add}
use native.Mathlib.Omega.{arith}
use lib.ListN.{length, get_or, set, length-append, length-set}
use lib.Bits.{bit_and, bit_or, and_mask, or_shifted, or_lt}
use lib.Pow.{pow-add, pow_mono, pow_pos, shl_exact, shl_lt, shl-shr, shr-shr, field, mod-mod-pow}
use lib.Seq.{get_or-set_same, set-set}
use Rattle.rules.specs.Bits.{bits_of}
use Rattle.bits.specs.Put.{with_bit, put_bit, put_bits}

pub bits_length : (n v : ℕ) → length (bits_of n v) ≡ n
unfolding bits_of
bits_length zero v = refl
bits_length (suc n) v = simp (length-append, bits_length n (v / 2)) (omega arith)

-- the first digits are those of the number above the last ones
pub bits_split : (a b v : ℕ) → bits_of (a + b) v ≡ bits_of a (v / 2 ^ b) ++ bits_of b v
unfolding bits_of
bits_split a zero v = rw (add-zero, div-one, append-nil)
bits_split a (suc b) v =
    let e : v / 2 / 2 ^ b ≡ v / 2 ^ suc b = shr-shr v 1 b ∙ ap (λ (x : ℕ). v / 2 ^ x) (one-add b) in
    rw (add-suc, bits_split a b (v / 2), e, append_assoc)

-- no digit above the last k matters to them
pub bits_part : (k v : ℕ) → bits_of k (v % 2 ^ k) ≡ bits_of k v
unfolding bits_of
bits_part zero v = refl
bits_part (suc k) v =
    let e : v % 2 ^ suc k / 2 ≡ v / 2 % 2 ^ k = rw (add-one k) at (field v k 1) in
    let f : v % 2 ^ suc k % 2 ≡ v % 2 = rw (add-one k) at (mod-mod-pow v k 1) in
    rw (e, f, bits_part k (v / 2))

pub put_append : (s : List ℕ) (at : ℕ) (x y : List ℕ) → put_bits s at (x ++ y) ≡ put_bits (put_bits s at x) (at + length x) y
unfolding put_bits
put_append s at [] y = rw add-zero
put_append s at (b ∷ x) y =
    let e : at + 1 + length x ≡ at + suc (length x) = omega arith in
    put_append (put_bit s at b) (at + 1) x y ∙ ap (λ (p : ℕ). put_bits (put_bits (put_bit s at b) (at + 1) x) p y) e

pub put_length : (s : List ℕ) (at : ℕ) (bits : List ℕ) → length (put_bits s at bits) ≡ length s
unfolding put_bits put_bit
put_length s at [] = refl
put_length s at (b ∷ bits) = put_length (put_bit s at b) (at + 1) bits ∙ simp length-set

-- a number times m, by its last bit and what stands above it
bit_times : (p m : ℕ) → p / 2 * (m * 2) + p % 2 * m ≡ p * m
bit_times p m =
    let e : p / 2 * 2 + p % 2 ≡ p = div-add-mod' p 2 in
    let f : p / 2 * (m * 2) ≡ p / 2 * 2 * m = rw (mul_comm m 2, mul_assoc) in
    ap (λ (x : ℕ). x + p % 2 * m) f ∙ sym (add-mul (p / 2 * 2) (p % 2) m) ∙ ap (λ (x : ℕ). x * m) e

-- a bit falls into the place above the last e bits of a number that has none there
bit_behind : (q k e p : ℕ)
    → (q * 2 ^ (k + suc e) + p / 2 * 2 ^ suc e) / 2 ^ suc e * 2 ^ suc e + p % 2 * 2 ^ e ≡ q * 2 ^ (k + suc e) + p * 2 ^ e
bit_behind q k e p =
    let x = q * 2 ^ (k + suc e) + p / 2 * 2 ^ suc e in
    let whole : x ≡ (q * 2 ^ k + p / 2) * 2 ^ suc e = rw (pow-add 2 k (suc e), add-mul, mul_assoc) in
    let kept : x / 2 ^ suc e * 2 ^ suc e ≡ x = rw (whole, shl-shr) in
    let t : p / 2 * 2 ^ suc e + p % 2 * 2 ^ e ≡ p * 2 ^ e = rw (pow-suc 2 e) (bit_times p (2 ^ e)) in
    ap (λ (y : ℕ). y + p % 2 * 2 ^ e) kept ∙ add_assoc (q * 2 ^ (k + suc e)) (p / 2 * 2 ^ suc e) (p % 2 * 2 ^ e) ∙ ap (λ (y : ℕ). q * 2 ^ (k + suc e) + y) t

-- one more bit behind k bits of a byte
with_next : (b o k p : ℕ) → o + suc k ≤ 8
    → with_bit (b / 2 ^ (8 - o) * 2 ^ (8 - o) + p / 2 * 2 ^ (8 - o - k)) (o + k) (p % 2) ≡ b / 2 ^ (8 - o) * 2 ^ (8 - o) + p * 2 ^ (8 - o - suc k)
unfolding with_bit
with_next b o k p h =
    let e = 7 - (o + k) in
    let here : 8 - o - k ≡ suc e = omega arith in
    let top : 8 - (o + k) ≡ suc e = omega arith in
    let behind : 8 - o - suc k ≡ e = omega arith in
    let room : 8 - o ≡ k + suc e = omega arith in
    rw (here, top, behind, room) (bit_behind (b / 2 ^ (k + suc e)) k e p)

put_bit_lem : (s : List ℕ) (i o b : ℕ) → o < 8 → put_bit s (8 * i + o) b ≡ set s i (with_bit (get_or s i 0) o b)
unfolding put_bit
put_bit_lem s i o b h =
    let e : (8 * i + o) / 8 ≡ i = omega arith in
    let f : (8 * i + o) % 8 ≡ o = omega arith in
    rw (e, f)

with_first : (b o p : ℕ) → o < 8 → p < 2 → with_bit b o (p % 2) ≡ b / 2 ^ (8 - o) * 2 ^ (8 - o) + p * 2 ^ (8 - o - 1)
unfolding with_bit
with_first b o p h f =
    let low : p % 2 ≡ p = omega arith in
    let behind : 8 - o - 1 ≡ 7 - o = omega arith in
    rw (low, behind)

bits_more : (n v : ℕ) → bits_of (suc n) v ≡ bits_of n (v / 2) ++ (v % 2 ∷ [])
unfolding bits_of
bits_more n v = refl

put_last : (s : List ℕ) (at n v : ℕ) → put_bits s at (bits_of (suc n) v) ≡ put_bit (put_bits s at (bits_of n (v / 2))) (at + n) (v % 2)
unfolding put_bits
put_last s at n v = rw (bits_more n v, put_append s at (bits_of n (v / 2)) (v % 2 ∷ []), bits_length n (v / 2))

put_one : (s : List ℕ) (at v : ℕ) → put_bits s at (bits_of 1 v) ≡ put_bit s at (v % 2)
unfolding put_bits bits_of
put_one s at v = refl

put_inside : (s : List ℕ) (i o k p : ℕ) → o + suc k ≤ 8 → i < length s → p < 2 ^ suc k
    → put_bits s (8 * i + o) (bits_of (suc k) p) ≡ set s i (get_or s i 0 / 2 ^ (8 - o) * 2 ^ (8 - o) + p * 2 ^ (8 - o - suc k))
put_inside s i o zero p h l f = put_one s (8 * i + o) p ∙ put_bit_lem s i o (p % 2) (omega arith) ∙ ap (set s i) (with_first (get_or s i 0) o p (omega arith) (omega arith))
put_inside s i o (suc k) p h l f =
    let w = get_or s i 0 / 2 ^ (8 - o) * 2 ^ (8 - o) + p / 2 * 2 ^ (8 - o - suc k) in
    let half : p / 2 < 2 ^ suc k = omega (arith, pow-suc 2 (suc k)) in
    let before : put_bits s (8 * i + o) (bits_of (suc k) (p / 2)) ≡ set s i w = put_inside s i o k (p / 2) (omega arith) l half in
    let place : 8 * i + o + suc k ≡ 8 * i + (o + suc k) = omega arith in
    rw (put_last s (8 * i + o) (suc k) p, before, place, put_bit_lem (set s i w) i (o + suc k) (p % 2) (omega arith), get_or-set_same s i w 0 l, set-set, with_next (get_or s i 0) o (suc k) p h)

-- k bits inside one byte are one store
pub put_byte : (s : List ℕ) (at i o k part : ℕ) → at / 8 ≡ i → at % 8 ≡ o → o + k ≤ 8 → 1 ≤ k → i < length s → part < 2 ^ k
    → put_bits s at (bits_of k part) ≡ set s i (get_or s i 0 / 2 ^ (8 - o) * 2 ^ (8 - o) + part * 2 ^ (8 - o - k))
put_byte s at i o zero part e f h n l p = elim n [ ]
put_byte s at i o (suc k) part e f h n l p =
    let place : at ≡ 8 * i + o = omega arith in
    rw place (put_inside s i o k part h l p)

-- where no bit is left, the place does not matter
pub put_place : (s : List ℕ) (p q n v : ℕ) → (0 < n → p ≡ q) → put_bits s p (bits_of n v) ≡ put_bits s q (bits_of n v)
unfolding put_bits bits_of
put_place s p q zero v h = refl
put_place s p q (suc n) v h = ap (λ (x : ℕ). put_bits s x (bits_of (suc n) v)) (h (omega arith))

pub part_fits : (x k r : ℕ) → r ≡ x % 2 ^ k → r < 2 ^ k
part_fits x k r e = rw e (mod-lt x (pow_pos k))

-- a field that begins with k bits inside one byte: that byte, and the other bits from the next byte on
pub put_step : (s : List ℕ) (i o k left v part w : ℕ) → i < length s → o < 8 → 0 < left → k ≡ min (8 - o) left → part ≡ v / 2 ^ (left - k) % 2 ^ k
    → w ≡ get_or s i 0 / 2 ^ (8 - o) * 2 ^ (8 - o) + part * 2 ^ (8 - o - k)
    → put_bits s (8 * i + o) (bits_of left v) ≡ put_bits (set s i w) (8 * (i + 1) + 0) (bits_of (left - k) v)
put_step s i o k left v part w l h n e f g =
    let u = v / 2 ^ (left - k) in
    let all : left ≡ k + (left - k) = omega arith in
    let split : bits_of left v ≡ bits_of k u ++ bits_of (left - k) v = ap (λ (x : ℕ). bits_of x v) all ∙ bits_split k (left - k) v in
    let small : part < 2 ^ k = part_fits u k part f in
    let same : bits_of k u ≡ bits_of k part = rw f (sym (bits_part k u)) in
    let stored : put_bits s (8 * i + o) (bits_of k u) ≡ set s i w = rw (same, g) (put_byte s (8 * i + o) i o k part (omega arith) (omega arith) (omega arith) (omega arith) l small) in
    rw (split, put_append, bits_length, stored) (put_place (set s i w) (8 * i + o + k) (8 * (i + 1) + 0) (left - k) v (λ r. omega arith))

pub put_none : (s : List ℕ) (at n v : ℕ) → n ≡ 0 → put_bits s at (bits_of n v) ≡ s
unfolding put_bits bits_of
put_none s at n v e = rw e

-- a one above k zeros, and the mask of k ones that it makes
pub one_above : (k : ℕ) → k ≤ 8 → 1 * 2 ^ k % 2 ^ 64 ≡ 2 ^ k
one_above k h = shl_exact 1 k 64 (omega arith) (omega arith) ∙ one-mul (2 ^ k)

pub masked : (x k : ℕ) → k ≤ 8 → bit_and x (1 * 2 ^ k % 2 ^ 64 - 1) ≡ x % 2 ^ k
masked x k h = rw (one_above k h, and_mask x k)

-- a byte's bits above the last m, and other bits beside them, make a byte
kept_byte : (b m : ℕ) → b < 256 → b / 2 ^ m * 2 ^ m < 256
kept_byte b m h = omega (arith, div-mul-le_self b (2 ^ m))

low_word : (x : ℕ) → x < 256 → x % 2 ^ 32 ≡ x
low_word x h = mod-eq_of_lt (omega arith)

pub joined_byte : (b m x : ℕ) → b < 256 → x < 256 → bit_or (b / 2 ^ m * 2 ^ m % 2 ^ 32) (x % 2 ^ 32) < 256
joined_byte b m x h l = rw (low_word _ (kept_byte b m h), low_word x l) (or_lt 8 _ _ (kept_byte b m h) l)

-- the bits that stay in a byte, and the part that comes behind them
module _ (b o k part : ℕ) (h : o + k ≤ 8) (l : part < 2 ^ k) where
  part_lt : part * 2 ^ (8 - o - k) < 2 ^ (8 - o)
  part_lt =
      let e : k + (8 - o - k) ≡ 8 - o = omega arith in
      rw e at (shl_lt k (8 - o - k) l)

  pub part_byte : part * 2 ^ (8 - o - k) < 256
  part_byte =
      let m : 8 - o ≤ 8 = omega arith in
      omega (arith, part_lt, pow_mono m)

  pub joined : b < 256
      → bit_or (b / 2 ^ (8 - o) * 2 ^ (8 - o) % 2 ^ 32) (part * 2 ^ (8 - o - k) % 2 ^ 32) ≡ b / 2 ^ (8 - o) * 2 ^ (8 - o) + part * 2 ^ (8 - o - k)
  joined byte = rw (low_word _ (kept_byte b (8 - o) byte), low_word _ part_byte, or_shifted (b / 2 ^ (8 - o)) (8 - o) (part * 2 ^ (8 - o - k)) part_lt)
