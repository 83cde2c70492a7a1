-- Big-endian numbers, whatever their width: one byte more, their size, and where their bytes are seen.
use mathlib.Core.Path.{◌≡◌, refl}
use Prim.Native.Nat.{ℕ, zero, suc, ◌+◌, ◌*◌, ◌^◌, ◌≤◌, ◌<◌}
use native.Mathlib.Nat.{add-zero, add-suc, suc-add, pow-suc, pow-le-pow_right}
use native.Mathlib.Omega.{arith}
use native.Mathlib.Numerals.{add-one}
use Rattle.rules.specs.Real.{number_of, bytes_from}

-- a byte more
pub number_more : (f : ℕ → ℕ) (a i v b : ℕ) → v ≡ number_of f a i → b ≡ f (a + i) → v * 256 + b ≡ number_of f a (i + 1)
unfolding number_of
number_more f a i v b p q = rw (add-one, p, q)

pub number_below : (i v b : ℕ) → v < 256 ^ i → b < 256 → v * 256 + b < 256 ^ (i + 1)
number_below i v b p q =
    let e : 256 ^ suc i ≡ 256 ^ i * 256 = pow-suc 256 i in
    rw (add-one, e) (omega arith)

-- another byte fits a word while there are fewer than eight
pub number_room : (i v : ℕ) → v < 256 ^ i → i < 8 → v * 256 + 255 < 2 ^ 64
number_room i v p h = omega (arith, pow-le-pow_right {n = 256} (omega arith) {i = i} {j = 7} (omega arith))

-- all k bytes
pub number_end : (f : ℕ → ℕ) (a i k v : ℕ) → v ≡ number_of f a i → v < 256 ^ i → i ≤ k → k ≤ i → (v ≡ number_of f a k) × (v < 256 ^ k)
number_end f a i k v p q h l =
    let e : i ≡ k = omega arith in
    rw (← e) (p, q)

-- numbers and runs are made of the same bytes wherever these are seen
pub number_same : (f g : ℕ → ℕ) (a b k : ℕ) → ((j : ℕ) → j < k → f (a + j) ≡ g (b + j)) → number_of f a k ≡ number_of g b k
unfolding number_of
number_same f g a b zero e = refl
number_same f g a b (suc k) e = rw (number_same f g a b k (λ j l. e j (omega arith)), e k (omega arith))

pub bytes_same : (f g : ℕ → ℕ) (a b n : ℕ) → ((j : ℕ) → j < n → f (a + j) ≡ g (b + j)) → bytes_from f a n ≡ bytes_from g b n
unfolding bytes_from
bytes_same f g a b zero e = refl
bytes_same f g a b (suc n) e =
    let e0 : f (a + 0) ≡ g (b + 0) = e 0 (omega arith) in
    let e1 : f a ≡ g b = simp add-zero at e0 in
    rw (e1, bytes_same f g (suc a) (suc b) n (λ j l. simp (suc-add, ← add-suc) (e (suc j) (omega arith))))
