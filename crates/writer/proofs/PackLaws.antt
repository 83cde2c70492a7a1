-- Bits that are put one behind the other from bit 0 on leave the packed bytes, and behind these the bytes as they were.
use mathlib.Core.Path.{◌≡◌, refl, sym, ◌∙◌}
use mathlib.Core.List.{List, [], ◌∷◌, ◌++◌, append_assoc, append-nil}
use Prim.Native.Nat.{ℕ, zero, suc, ◌+◌, ◌-◌, ◌*◌, ◌/◌, ◌%◌, ◌^◌, ◌<◌, ◌≤◌}
use native.Mathlib.Nat.{add-zero, add-suc, pow-suc, mul_assoc, add-mul, mul-div_cancel}
use native.Mathlib.Omega.{arith}
use lib.ListN.{length, get_or, drop, length-append, get_or-append, get_or-eq_default}
use lib.Pow.{pow_pos}
use lib.Seq.{get_or_at, set_at, drop-cons}
use Rattle.rules.specs.Bits.{number_at, packed_bytes, packed}
use Rattle.bits.specs.Put.{with_bit, put_bit, put_bits}

-- a number in a row of bits: what is behind its bits does not count, and past the end of the row there are zeros
pub number_append : (p q : List ℕ) (at m : ℕ) → at + m ≤ length p → number_at (p ++ q) at m ≡ number_at p at m
unfolding number_at
number_append p q at zero h = refl
number_append p q at (suc m) h = rw (number_append p q at m (omega arith), get_or-append p q 0 (at + m) (omega arith))

pub number_past : (p : List ℕ) (at m j : ℕ) → length p ≤ at + m → number_at p at (m + j) ≡ number_at p at m * 2 ^ j
unfolding number_at
number_past p at m zero h = rw add-zero (omega arith)
number_past p at m (suc j) h = rw (add-suc m j, number_past p at m j h, get_or-eq_default p 0 {n = at + (m + j)} (omega arith), pow-suc) (omega (arith, mul_assoc (number_at p at m) (2 ^ j) 2))

pub number_one_more : (p : List ℕ) (b at r : ℕ) → at + r ≡ length p → number_at (p ++ (b ∷ [])) at (suc r) ≡ number_at p at r * 2 + b
unfolding number_at
number_one_more p b at r e = rw (number_append p (b ∷ []) at r (omega arith), get_or_at p b [] 0 (at + r) (sym e))

-- bytes
pub bytes_length : (p : List ℕ) (k : ℕ) → length (packed_bytes p k) ≡ k
unfolding packed_bytes
bytes_length p zero = refl
bytes_length p (suc k) = rw (length-append, bytes_length p k) (omega arith)

pub bytes_append : (p q : List ℕ) (k : ℕ) → 8 * k ≤ length p → packed_bytes (p ++ q) k ≡ packed_bytes p k
unfolding packed_bytes
bytes_append p q zero h = refl
bytes_append p q (suc k) h = rw (bytes_append p q k (omega arith), number_append p q (8 * k) 8 (omega arith))

pub packed_length : (p : List ℕ) → length (packed p) ≡ (length p + 7) / 8
unfolding packed
packed_length p = bytes_length p ((length p + 7) / 8)

-- the byte that the next bit comes into: its bits so far, and behind these zeros
module _ (p : List ℕ) (b at r : ℕ) (e : at + r ≡ length p) (h : r < 8) where
  pub last_byte_lem : number_at p at 8 ≡ number_at p at r * 2 ^ (8 - r)
  last_byte_lem =
      let q : r + (8 - r) ≡ 8 = omega arith in
      rw q at (number_past p at r (8 - r) (omega arith))

  pub next_byte : number_at (p ++ (b ∷ [])) at 8 ≡ number_at p at r * 2 ^ (8 - r) + b * 2 ^ (7 - r)
  next_byte =
      let n : length (p ++ (b ∷ [])) ≡ length p + 1 = length-append p (b ∷ []) in
      let q : suc r + (7 - r) ≡ 8 = omega arith in
      let t : number_at (p ++ (b ∷ [])) at 8 ≡ number_at (p ++ (b ∷ [])) at (suc r) * 2 ^ (7 - r) = rw q at (number_past (p ++ (b ∷ [])) at (suc r) (7 - r) (omega arith)) in
      let o : number_at (p ++ (b ∷ [])) at (suc r) ≡ number_at p at r * 2 + b = number_one_more p b at r e in
      let w : 8 - r ≡ suc (7 - r) = omega arith in
      t ∙ rw (o, w, pow-suc) (omega (arith, add-mul (number_at p at r * 2) b (2 ^ (7 - r)), mul_assoc (number_at p at r) 2 (2 ^ (7 - r))))

  -- where bits are there before it, they stay
  pub some_before : with_bit (number_at p at 8) r b ≡ number_at (p ++ (b ∷ [])) at 8
  unfolding with_bit
  some_before = rw (next_byte, last_byte_lem, mul-div_cancel (number_at p at r) (pow_pos (8 - r)))

-- where none is there before it, the byte of the buffer goes
pub none_before : (p : List ℕ) (b at x : ℕ) → at ≡ length p → x < 256 → with_bit x 0 b ≡ number_at (p ++ (b ∷ [])) at 8
unfolding with_bit number_at
none_before p b at x e h = rw (next_byte p b at 0 (omega arith) (omega arith)) (omega arith)

-- one more bit
module _ (p : List ℕ) (b k r x : ℕ) (t : List ℕ) (e : 8 * k + r ≡ length p) (h : r < 8) where
  one_more : with_bit x r b ≡ number_at (p ++ (b ∷ [])) (8 * k) 8 → put_bit (packed_bytes p k ++ (x ∷ t)) (length p) b ≡ packed_bytes (p ++ (b ∷ [])) (suc k) ++ t
  unfolding put_bit packed_bytes
  one_more w =
      let d : length p / 8 ≡ k = omega arith in
      let m : length p % 8 ≡ r = omega arith in
      rw (d, m, get_or_at (packed_bytes p k) x t 0 k (bytes_length p k), set_at (packed_bytes p k) x t _ k (bytes_length p k), w, bytes_append p (b ∷ []) k (omega arith)) (sym (append_assoc (packed_bytes p k) (number_at (p ++ (b ∷ [])) (8 * k) 8 ∷ []) t))

-- the bits so far are packed, and the bytes behind are those of the buffer
abbrev packed_over : List ℕ → List ℕ → List ℕ
packed_over p s = packed p ++ drop ((length p + 7) / 8) s

module _ (s : List ℕ) (bytes : (i : ℕ) → get_or s i 0 < 256) where
  module _ (p : List ℕ) (b : ℕ) (h : length p < 8 * length s) where
    grown : length (p ++ (b ∷ [])) ≡ length p + 1
    grown = length-append p (b ∷ [])

    new_byte : (k : ℕ) → 8 * k ≡ length p → put_bit (packed_over p s) (length p) b ≡ packed_over (p ++ (b ∷ [])) s
    unfolding packed
    new_byte k e =
        let n : (length p + 7) / 8 ≡ k = omega arith in
        let m : (length (p ++ (b ∷ [])) + 7) / 8 ≡ suc k = omega (arith, grown) in
        let l : k < length s = omega arith in
        rw (n, m, drop-cons s k 0 l)
        (one_more p b k 0 (get_or s k 0) (drop (suc k) s) (omega arith) (omega arith) (none_before p b (8 * k) (get_or s k 0) e (bytes k)))

    same_byte : (k r : ℕ) → 8 * k + suc r ≡ length p → suc r < 8 → put_bit (packed_over p s) (length p) b ≡ packed_over (p ++ (b ∷ [])) s
    unfolding packed packed_bytes
    same_byte k r e l =
        let n : (length p + 7) / 8 ≡ suc k = omega arith in
        let m : (length (p ++ (b ∷ [])) + 7) / 8 ≡ suc k = omega (arith, grown) in
        rw (n, m, append_assoc (packed_bytes p k) (number_at p (8 * k) 8 ∷ []) (drop (suc k) s))
        (one_more p b k (suc r) (number_at p (8 * k) 8) (drop (suc k) s) e l (some_before p b (8 * k) (suc r) e l))

    by_place : (r : ℕ) → length p % 8 ≡ r → put_bit (packed_over p s) (length p) b ≡ packed_over (p ++ (b ∷ [])) s
    by_place zero e = new_byte (length p / 8) (omega arith)
    by_place (suc r) e = same_byte (length p / 8) r (omega arith) (omega arith)

  over_all : (p l : List ℕ) → length p + length l ≤ 8 * length s → put_bits (packed_over p s) (length p) l ≡ packed_over (p ++ l) s
  unfolding put_bits
  over_all p [] h = rw (append-nil p)
  over_all p (b ∷ l) h =
      let n : length p + 1 ≡ length (p ++ (b ∷ [])) = sym (length-append p (b ∷ [])) in
      rw (by_place p b (omega arith) (length p % 8) refl, n, over_all (p ++ (b ∷ [])) l (omega arith), append_assoc p (b ∷ []) l)

  pub put_packed : (l : List ℕ) → length l ≤ 8 * length s → put_bits s 0 l ≡ packed l ++ drop (length (packed l)) s
  unfolding packed packed_bytes
  put_packed l h = rw (packed_length l) (over_all [] l (omega arith))
