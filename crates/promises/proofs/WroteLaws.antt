-- What is seen after a write: its bytes where it lies, and elsewhere what was seen.
use mathlib.Core.Path.{◌≡◌, refl}
use mathlib.Core.Bool.{Bool, true, false, and-false}
use mathlib.Core.List.{List, [], ◌∷◌}
use Prim.Native.Nat.{ℕ, suc, ◌+◌, ◌-◌, ◌≤◌, ◌<◌}
use native.Mathlib.Nat.{add-zero, suc-add, add-suc}
use native.Mathlib.Omega.{arith}
use lib.Dec.{leb, ltb}
use lib.ListN.{length, get_or}
use borrow.Author.Tests.{leb-true, ltb-true, le-leb, lt-ltb}
use Rattle.rules.specs.Real.{Sight, Write, bytes_from}
use Rattle.memory.proofs.Numbers.{bytes_same}
use Rattle.promises.specs.Machine.{written}
use Rattle.promises.specs.Resent.{Apart}

module _ (s : Sight) (w : Write) where
  pub wrote_else : (b : ℕ) → (w.at ≤ b → b < w.at + length w.bytes → ⊥) → (written s w).byte b ≡ s.byte b
  wrote_else b out = go (leb w.at b) refl (ltb b (w.at + length w.bytes)) refl
    where
      go : (t : Bool) → leb w.at b ≡ t → (u : Bool) → ltb b (w.at + length w.bytes) ≡ u → (written s w).byte b ≡ s.byte b
      go true p true q = absurd (out (leb-true _ _ p) (ltb-true _ _ q))
      go true p false q = rw (q, and-false)
      go false p u q = rw p

  pub wrote_at : (k : ℕ) → k < length w.bytes → s.valid (w.at + k) 1 ≡ true → (written s w).byte (w.at + k) ≡ get_or w.bytes k 0
  wrote_at k l e =
      let d : w.at + k - w.at ≡ k = omega arith in
      rw (le-leb w.at (w.at + k) (omega arith), lt-ltb (w.at + k) (w.at + length w.bytes) (omega arith), e, d)

  -- a range that lies apart
  pub range_else : (a n : ℕ) → Apart a n w.at (length w.bytes) → bytes_from (written s w).byte a n ≡ bytes_from s.byte a n
  range_else a n apart = bytes_same (written s w).byte s.byte a a n (λ k h. wrote_else (a + k) (λ p q. apart (a + k) (omega arith) (omega arith) p q))

-- bytes that are those of a list, one by one, are the list
pub bytes_list : (f : ℕ → ℕ) (l : List ℕ) (a : ℕ) → ((k : ℕ) → k < length l → f (a + k) ≡ get_or l k 0) → bytes_from f a (length l) ≡ l
unfolding bytes_from
bytes_list f [] a e = refl
bytes_list f (x ∷ l) a e =
    let first : f (a + 0) ≡ x = e 0 (omega arith) in
    rw (simp add-zero at first, bytes_list f l (suc a) (λ k h. rw (suc-add, ← add-suc) (e (suc k) (omega arith))))

pub range_own : (s : Sight) (w : Write) → ((k : ℕ) → k < length w.bytes → s.valid (w.at + k) 1 ≡ true) → bytes_from (written s w).byte w.at (length w.bytes) ≡ w.bytes
range_own s w own = bytes_list (written s w).byte w.bytes w.at (λ k h. wrote_at s w k h (own k h))
