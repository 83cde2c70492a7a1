-- Bits in a row: those of bytes are those of the fields there, and the bytes that they are packed into have them again.
use mathlib.Core.Path.{◌≡◌, refl, sym, ap, ◌∙◌}
use mathlib.Core.Logic.{⊎_elim}
use mathlib.Core.List.{List, [], ◌∷◌, ◌++◌, append_assoc, append-nil}
use Prim.Native.Nat.{ℕ, zero, suc, ◌+◌, ◌-◌, ◌*◌, ◌/◌, ◌%◌, ◌^◌, ◌<◌, ◌≤◌}
use native.Mathlib.Nat.{zero-add, pow-suc, eq-or-lt_of_le}
use native.Mathlib.Omega.{arith}
use lib.ListN.{length, get_or, take, drop, length-append, get_or-append, get_or-eq_default}
use lib.Pow.{shr-shr}
use lib.Seq.{ext_get_or, get_or_at, take_at, drop_at}
use Rattle.rules.specs.Scan.{each_below}
use Rattle.rules.specs.Bits.{bit_at, field_at, bits_of, number_at, packed_bytes, packed}
use Rattle.rules.proofs.Tests.{lt_or_ge}
use Rattle.bits.proofs.FieldLaws.{field_lt}
use Rattle.bits.proofs.PutLaws.{bits_length}
use Rattle.writer.proofs.PackLaws.{packed_length}
use Rattle.writer.proofs.RowLaws.{each_length}
use Rattle.roundtrip.specs.Again.{Bytes}

-- Rows one behind the other.

pub each_same : (f g : ℕ → List ℕ) (n : ℕ) → ((i : ℕ) → i < n → f i ≡ g i) → each_below n f ≡ each_below n g
unfolding each_below
each_same f g zero e = refl
each_same f g (suc n) e = rw (each_same f g n (λ i h. e i (omega arith)), e n (omega arith))

pub append_same : (a b x y : List ℕ) → length a ≡ length b → a ++ x ≡ b ++ y → (a ≡ b) × (x ≡ y)
append_same a b x y l e = (
  sym (take_at a x (length a) refl) ∙ ap (take (length a)) e ∙ take_at b y (length a) (sym l),
  sym (drop_at a x (length a) refl) ∙ ap (drop (length a)) e ∙ drop_at b y (length a) (sym l),
)

-- the numbers f 0, f 1, ..
module _ (f : ℕ → ℕ) where
  abbrev numbers : ℕ → List ℕ
  numbers n = each_below n (λ i. f i ∷ [])

  numbers_length : (n : ℕ) → length (numbers n) ≡ n
  unfolding each_below
  numbers_length zero = refl
  numbers_length (suc n) = rw length-append (omega (arith, numbers_length n))

  numbers_at : (n i : ℕ) → i < n → get_or (numbers n) i 0 ≡ f i
  unfolding each_below
  numbers_at zero i h = absurd (omega arith)
  numbers_at (suc n) i h =
      ⊎_elim
      (λ q. rw q (get_or_at (numbers n) (f n) [] 0 n (numbers_length n)))
      (λ l. get_or-append (numbers n) _ 0 i (omega (arith, numbers_length n)) ∙ numbers_at n i l)
      (eq-or-lt_of_le {n = i} {m = n} (omega arith))

-- The bits of bytes from `at` on, n of them.
unfoldable pub row : List ℕ → ℕ → ℕ → List ℕ
row s at n = numbers (λ i. bit_at s (at + i)) n

bit_small : (s : List ℕ) (i : ℕ) → bit_at s i < 2
unfolding bit_at
bit_small s i = omega arith

pub row_length : (s : List ℕ) (at n : ℕ) → length (row s at n) ≡ n
unfolding row
row_length s at n = numbers_length (λ i. bit_at s (at + i)) n

row_at : (s : List ℕ) (at n i : ℕ) → i < n → get_or (row s at n) i 0 ≡ bit_at s (at + i)
unfolding row
row_at s at n i h = numbers_at (λ i. bit_at s (at + i)) n i h

pub row_append : (s : List ℕ) (at a b : ℕ) → row s at (a + b) ≡ row s at a ++ row s (at + a) b
unfolding row each_below
row_append s at a zero =
    let z : a + 0 ≡ a = omega arith in
    rw z (sym (append-nil _))
row_append s at a (suc b) =
    let z : a + suc b ≡ suc (a + b) = omega arith in
    let q : at + (a + b) ≡ at + a + b = omega arith in
    rw (z, row_append s at a b, append_assoc, q)

-- they are the digits of the field there
pub row_bits : (s : List ℕ) (at n : ℕ) → row s at n ≡ bits_of n (field_at s at n)
unfolding row each_below bits_of field_at
row_bits s at zero = refl
row_bits s at (suc n) =
    let b : bit_at s (at + n) < 2 = bit_small s (at + n) in
    let high : (field_at s at n * 2 + bit_at s (at + n)) / 2 ≡ field_at s at n = omega arith in
    let low : (field_at s at n * 2 + bit_at s (at + n)) % 2 ≡ bit_at s (at + n) = omega arith in
    rw (high, low, row_bits s at n)

-- a number is told by its digits
bits_tell : (n v w : ℕ) → v < 2 ^ n → w < 2 ^ n → bits_of n v ≡ bits_of n w → v ≡ w
unfolding bits_of
bits_tell zero v w h k e = omega arith
bits_tell (suc n) v w h k e =
    let t = append_same (bits_of n (v / 2)) (bits_of n (w / 2)) _ _ (bits_length n (v / 2) ∙ sym (bits_length n (w / 2))) e in
    let low : v % 2 ≡ w % 2 = ap (λ (l : List ℕ). get_or l 0 0) t.1 in
    let high : v / 2 ≡ w / 2 = bits_tell n (v / 2) (w / 2) (omega (arith, pow-suc 2 n)) (omega (arith, pow-suc 2 n)) t.0 in
    omega arith

-- a field is 0 where each of its bits is, and only there
pub zero_field : (s : List ℕ) (at n : ℕ) → ((i : ℕ) → i < n → bit_at s (at + i) ≡ 0) → field_at s at n ≡ 0
unfolding field_at
zero_field s at zero e = refl
zero_field s at (suc n) e = omega (arith, zero_field s at n (λ i h. e i (omega arith)), e n (omega arith))

zero_bit : (s : List ℕ) (at n i : ℕ) → field_at s at n ≡ 0 → i < n → bit_at s (at + i) ≡ 0
unfolding field_at
zero_bit s at zero i e h = absurd (omega arith)
zero_bit s at (suc n) i e h =
    ⊎_elim
    (λ q. rw q (omega arith))
    (λ l. zero_bit s at n i (omega arith) l)
    (eq-or-lt_of_le {n = i} {m = n} (omega arith))

-- the eight bits of a byte are that byte
byte_part : (s : List ℕ) (k n m : ℕ) → get_or s k 0 < 256 → n + m ≡ 8 → field_at s (8 * k) n ≡ get_or s k 0 / 2 ^ m
unfolding field_at bit_at
byte_part s k zero m b e =
    let q : m ≡ 8 = omega arith in
    rw q (omega arith)
byte_part s k (suc n) m b e =
    let byte : (8 * k + n) / 8 ≡ k = omega arith in
    let place : 7 - (8 * k + n) % 8 ≡ m = omega arith in
    let half : get_or s k 0 / 2 ^ m / 2 ≡ get_or s k 0 / 2 ^ (m + 1) = shr-shr (get_or s k 0) m 1 in
    rw (byte, place) (omega (arith, byte_part s k n (m + 1) b (omega arith), half))

-- Bits packed into bytes.
abbrev pub Bits : List ℕ → Type 0
Bits l = (i : ℕ) → get_or l i 0 < 2

same_number : (l s : List ℕ) (at n : ℕ) → ((i : ℕ) → i < n → get_or l (at + i) 0 ≡ bit_at s (at + i)) → number_at l at n ≡ field_at s at n
unfolding number_at field_at
same_number l s at zero e = refl
same_number l s at (suc n) e = rw (same_number l s at n (λ i h. e i (omega arith)), e n (omega arith))

-- digit k of the n digits of a number, with m behind it
number_bit : (l : List ℕ) (at n k m : ℕ) → Bits l → n ≡ k + 1 + m → number_at l at n / 2 ^ m % 2 ≡ get_or l (at + k) 0
unfolding number_at
number_bit l at zero k m b e = absurd (omega arith)
number_bit l at (suc n) k zero b e =
    let q : n ≡ k = omega arith in
    rw q (omega (arith, b (at + k)))
number_bit l at (suc n) k (suc m) b e =
    let half : (number_at l at n * 2 + get_or l (at + n) 0) / 2 ≡ number_at l at n = omega (arith, b (at + n)) in
    let more : suc m ≡ 1 + m = omega arith in
    rw (more, ← shr-shr (number_at l at n * 2 + get_or l (at + n) 0) 1 m, half) (number_bit l at n k m b (omega arith))

bytes_are : (l : List ℕ) (n : ℕ) → packed_bytes l n ≡ numbers (λ k. number_at l (8 * k) 8) n
unfolding packed_bytes each_below
bytes_are l zero = refl
bytes_are l (suc n) = rw (bytes_are l n)

packed_at : (l : List ℕ) (k : ℕ) → k < (length l + 7) / 8 → get_or (packed l) k 0 ≡ number_at l (8 * k) 8
unfolding packed
packed_at l k h = rw bytes_are (numbers_at _ _ k h)

packed_bit : (l : List ℕ) (i : ℕ) → Bits l → i < 8 * length (packed l) → bit_at (packed l) i ≡ get_or l i 0
unfolding bit_at
packed_bit l i b h =
    let byte = packed_at l (i / 8) (omega (arith, packed_length l)) in
    let q : 8 * (i / 8) + i % 8 ≡ i = omega arith in
    rw (byte, number_bit l (8 * (i / 8)) 8 (i % 8) (7 - i % 8) b (omega arith), q)

-- the bits of bytes, up to the fill of the last one, are packed into the same bytes
pub packed_row : (s : List ℕ) (end : ℕ) → Bytes s → length s ≡ (end + 7) / 8 → field_at s end (8 * length s - end) ≡ 0 → packed (row s 0 end) ≡ s
packed_row s end bytes l z =
    ext_get_or 0 (packed (row s 0 end)) s (size ∙ sym l) (λ k h.
    let in_s : k < length s = omega (arith, size) in
    packed_at (row s 0 end) k (omega (arith, packed_length (row s 0 end)))
    ∙ same_number (row s 0 end) s (8 * k) 8 (λ i j. bit (8 * k + i) (omega arith))
    ∙ byte_part s k 8 0 (bytes k in_s) refl
    ∙ omega arith)
  where
    size : length (packed (row s 0 end)) ≡ (end + 7) / 8
    size = packed_length (row s 0 end) ∙ rw row_length

    bit : (i : ℕ) → i < 8 * length s → get_or (row s 0 end) i 0 ≡ bit_at s i
    bit i h =
        ⊎_elim
        (λ q. rw zero-add at (row_at s 0 end i q))
        (λ q.
        let m : end + (i - end) ≡ i = omega arith in
        get_or-eq_default (row s 0 end) 0 (omega (arith, row_length s 0 end)) ∙ sym (rw m at (zero_bit s end (8 * length s - end) (i - end) z (omega arith))))
        (lt_or_ge i end)

-- the fill of the last byte
pub packed_fill : (l : List ℕ) → Bits l → field_at (packed l) (length l) (8 * length (packed l) - length l) ≡ 0
packed_fill l b =
    zero_field (packed l) (length l) (8 * length (packed l) - length l) (λ i h.
    packed_bit l (length l + i) b (omega arith) ∙ get_or-eq_default l 0 (omega arith))

pub bits_append : (x y : List ℕ) → Bits x → Bits y → Bits (x ++ y)
bits_append [] y a b i = b i
bits_append (c ∷ x) y a b zero = a 0
bits_append (c ∷ x) y a b (suc i) = bits_append x y (λ j. a (suc j)) b i

pub bits_digits : (n v : ℕ) → Bits (bits_of n v)
unfolding bits_of
bits_digits zero v i = omega arith
bits_digits (suc n) v i = bits_append (bits_of n (v / 2)) (v % 2 ∷ []) (bits_digits n (v / 2)) one i
  where
    one : Bits (v % 2 ∷ [])
    one zero = omega arith
    one (suc i) = omega arith

pub bits_each : (f : ℕ → List ℕ) (n : ℕ) → ((i : ℕ) → Bits (f i)) → Bits (each_below n f)
unfolding each_below
bits_each f zero b i = omega arith
bits_each f (suc n) b i = bits_append (each_below n f) (f n) (bits_each f n b) (b n) i

-- A row stands in bytes from bit `at` on.
pub record Stands (s : List ℕ) (at : ℕ) (x : List ℕ) : Type 0 where
  pub reach : at + length x ≤ 8 * length s
  pub bits : row s at (length x) ≡ x

pub packed_stands : (l : List ℕ) → Bits l → Stands (packed l) 0 l
packed_stands l b = record {
  reach = omega (arith, packed_length l);
  bits = ext_get_or 0 (row (packed l) 0 (length l)) l (row_length (packed l) 0 (length l)) (λ i h.
      let m : i < length l = omega (arith, row_length (packed l) 0 (length l)) in
      rw zero-add at (row_at (packed l) 0 (length l) i m) ∙ packed_bit l i b (omega (arith, packed_length l)));
}

-- and then its parts do
pub stands_parts : (s : List ℕ) (at : ℕ) (x y : List ℕ) → Stands s at (x ++ y) → Stands s at x × Stands s (at + length x) y
stands_parts s at x y t =
    let e : row s at (length x) ++ row s (at + length x) (length y) ≡ x ++ y = sym (row_append s at (length x) (length y)) ∙ (rw length-append at t.bits) in
    let p = append_same (row s at (length x)) x _ y (row_length s at (length x)) e in
    let r : at + length (x ++ y) ≤ 8 * length s = t.reach in
    (record { reach = omega (arith, length-append x y); bits = p.0 }, record { reach = omega (arith, length-append x y); bits = p.1 })

pub stands_each : (s : List ℕ) (at : ℕ) (f : ℕ → List ℕ) (n i : ℕ) → Stands s at (each_below n f) → i < n → Stands s (at + length (each_below i f)) (f i)
unfolding each_below
stands_each s at f zero i t h = absurd (omega arith)
stands_each s at f (suc n) i t h =
    let p = stands_parts s at (each_below n f) (f n) t in
    ⊎_elim (λ q. rw q p.1) (λ l. stands_each s at f n i p.0 l) (eq-or-lt_of_le {n = i} {m = n} (omega arith))

-- rows of one width
pub stands_one : (s : List ℕ) (at : ℕ) (f : ℕ → List ℕ) (w n i : ℕ) → ((i : ℕ) → length (f i) ≡ w) → Stands s at (each_below n f) → i < n → Stands s (at + w * i) (f i)
stands_one s at f w n i e t h = rw (each_length f w e i) at (stands_each s at f n i t h)

-- the digits of a number that stand somewhere are the field there
pub stands_field : (s : List ℕ) (at n v : ℕ) → v < 2 ^ n → Stands s at (bits_of n v) → (at + n ≤ 8 * length s) × (field_at s at n ≡ v)
stands_field s at n v h t =
    let r : at + length (bits_of n v) ≤ 8 * length s = t.reach in
    (omega (arith, bits_length n v), bits_tell n (field_at s at n) v (field_lt s at n) h (sym (row_bits s at n) ∙ (rw bits_length at t.bits)))

-- three fields that follow each other
abbrev pub three : ℕ → ℕ → ℕ → ℕ → ℕ → ℕ → List ℕ
three a b c u v w = bits_of a u ++ (bits_of b v ++ bits_of c w)

module _ (a b c u v w : ℕ) where
  pub three_bits : Bits (three a b c u v w)
  three_bits = bits_append (bits_of a u) (bits_of b v ++ bits_of c w) (bits_digits a u) (bits_append (bits_of b v) (bits_of c w) (bits_digits b v) (bits_digits c w))

  pub three_stand : (s : List ℕ) (at : ℕ) → u < 2 ^ a → v < 2 ^ b → w < 2 ^ c → Stands s at (three a b c u v w)
      → (at + (a + b + c) ≤ 8 * length s) × (field_at s at a ≡ u) × (field_at s (at + a) b ≡ v) × (field_at s (at + (a + b)) c ≡ w)
  three_stand s at hu hv hw t =
      let p = stands_parts s at (bits_of a u) (bits_of b v ++ bits_of c w) t in
      let q = stands_parts s (at + length (bits_of a u)) (bits_of b v) (bits_of c w) p.1 in
      let m : at + a + b ≡ at + (a + b) = omega arith in
      let x = stands_field s at a u hu p.0 in
      let y = stands_field s (at + a) b v hv (rw (bits_length a u) at q.0) in
      let z = stands_field s (at + (a + b)) c w hw (rw (bits_length a u, bits_length b v, m) at q.1) in
      (omega (arith, z.0), x.1, y.1, z.1)

pub three_read : (s : List ℕ) (at a b c : ℕ) → three a b c (field_at s at a) (field_at s (at + a) b) (field_at s (at + (a + b)) c) ≡ row s at (a + b + c)
three_read s at a b c =
    sym
    (row_append s at (a + b) c
    ∙ rw (row_append s at a b, append_assoc, row_bits s at a, row_bits s (at + a) b, row_bits s (at + (a + b)) c))
