-- How far the addresses of a guest reach: a range is valid where every one of its bytes lies in some extent.
use Rattle.std.proofs.Common.{Some, None}
use mathlib.Core.Path.{◌≡◌, refl, sym, ap, ◌∙◌}
use mathlib.Core.Bool.{Bool, true, false, cond, true≢false}
use mathlib.Core.List.{List, [], ◌∷◌}
use Prim.Native.Nat.{ℕ, ◌+◌, ◌-◌, ◌≤◌, ◌<◌}
use native.Mathlib.Nat.{add-zero}
use native.Mathlib.Omega.{arith}
use lib.Dec.{leb, ltb}
use borrow.Author.Tests.{le-leb, lt-leb, leb-true, leb-false, ltb-true, ltb-false}
use Rattle.rules.specs.declared.Extent.{Extent}
use Rattle.rules.specs.declared.Host.{Host}
use Rattle.rules.specs.Real.{low, high, holds, host_offset, located, reach, valid}
use Rattle.rules.proofs.Tests.{leb_same}
use Rattle.memory.specs.Cells.{somewhere}
use Rattle.memory.specs.Ready.{After, Apart}
use Rattle.memory.proofs.Holds.{holds_low, holds_high, holds_made, holds_not}

-- an extent's step leads no way back
step_from : (x : Extent) (a : ℕ) → a ≤ cond (holds x a) (high x) a
step_from x a = go (holds x a) refl
  where
    go : (t : Bool) → holds x a ≡ t → a ≤ cond t (high x) a
    go true e = omega (arith, holds_high x a e)
    go false e = omega arith

pub reach_from : (es : List Extent) (a : ℕ) → a ≤ reach es a
unfolding reach
reach_from [] a = omega arith
reach_from (x ∷ xs) a = omega (arith, step_from x a, reach_from xs (cond (holds x a) (high x) a))

-- an address past one of the extent's that is not its own lies behind it
past_own : (x : Extent) (a b : ℕ) → a ≤ b → holds x a ≡ true → holds x b ≡ false → high x ≤ b
past_own x a b l p q = go (ltb b (high x)) refl
  where
    go : (t : Bool) → ltb b (high x) ≡ t → high x ≤ b
    go true e = absurd (true≢false (sym (holds_made x b (omega (arith, holds_low x a p)) (ltb-true b (high x) e)) ∙ q))
    go false e = ltb-false b (high x) e

-- every address that was passed lies in some extent
reach_passes : (es : List Extent) (a b : ℕ) → a ≤ b → b < reach es a → somewhere (located es b) ≡ true
unfolding reach located
reach_passes [] a b l h = absurd (omega arith)
reach_passes (x ∷ xs) a b l h = go (λ k. reach_passes xs (cond (holds x a) (high x) a) b k h) (holds x b) refl (holds x a) refl
  where
    go : (cond (holds x a) (high x) a ≤ b → somewhere (located xs b) ≡ true) → (t : Bool) → holds x b ≡ t → (s : Bool) → holds x a ≡ s
        → somewhere (cond t (Some (host_offset x (record { 0 = b }))) (located xs b)) ≡ true
    go ih true q s p = refl
    go ih false q true p = ih (rw p (past_own x a b l p q))
    go ih false q false p = ih (rw p l)

-- from an address that was passed one comes as far
reach_between : (es : List Extent) (a b : ℕ) → a ≤ b → b ≤ reach es a → reach es a ≤ reach es b
unfolding reach
reach_between [] a b l h = l
reach_between (x ∷ xs) a b l h = go (holds x a) refl (holds x b) refl (reach_between xs) h
  where
    go : (s : Bool) → holds x a ≡ s → (t : Bool) → holds x b ≡ t → ((c d : ℕ) → c ≤ d → d ≤ reach xs c → reach xs c ≤ reach xs d)
        → b ≤ reach xs (cond s (high x) a) → reach xs (cond s (high x) a) ≤ reach xs (cond t (high x) b)
    go true p true q ih k = omega arith
    go true p false q ih k = ih (high x) b (past_own x a b l p q) k
    go false p false q ih k = ih a b l k
    go false p true q ih k = further (leb (high x) (reach xs a)) refl
      where
        further : (t : Bool) → leb (high x) (reach xs a) ≡ t → reach xs a ≤ reach xs (high x)
        further true e = ih a (high x) (omega (arith, holds_high x b q)) (leb-true (high x) (reach xs a) e)
        further false e = omega (arith, leb-false (high x) (reach xs a) e, reach_from xs (high x))

-- the test of a range that starts at base, where r is reached
pub valid_is : (es : List Extent) (base n r : ℕ) → r ≡ reach es base → leb n (r - base) ≡ valid es base n
unfolding valid
valid_is es base n r e =
    let h : base ≤ reach es base = reach_from es base in
    rw e (leb_same n (reach es base - base) (base + n) (reach es base) (omega arith) (omega arith))

-- each byte of a valid range lies somewhere
pub valid_at : (es : List Extent) (a n k : ℕ) → valid es a n ≡ true → k < n → somewhere (located es (a + k)) ≡ true
unfolding valid
valid_at es a n k v h = reach_passes es a (a + k) (omega arith) (omega (arith, leb-true (a + n) (reach es a) v))

-- a part of a valid range is valid
pub valid_part : (es : List Extent) (b n k j : ℕ) → valid es b n ≡ true → k + j ≤ n → valid es (b + k) j ≡ true
unfolding valid
valid_part es b n k j v l =
    let e : b + n ≤ reach es b = leb-true (b + n) (reach es b) v in
    le-leb (b + k + j) (reach es (b + k)) (omega (arith, reach_between es b (b + k) (omega arith) (omega arith)))

-- Of extents that ascend, as those of tables that hold: what was reached lies in none.

-- those behind an extent have no address before its end
after_nowhere : (x : Extent) (es : List Extent) (a : ℕ) → After x es → a < high x → (reach es a ≡ a) × (somewhere (located es a) ≡ false)
unfolding reach located
after_nowhere x [] a s l = (refl, refl)
after_nowhere x (y ∷ ys) a s l =
    let e : holds y a ≡ false = simp (lt-leb (low y) a (omega (arith, s.0))) in
    rw e (after_nowhere x ys a s.1 l)

-- nor has the extent itself what is reached behind it
not_held : (x : Extent) (xs : List Extent) (a : ℕ) → After x xs → holds x (reach xs (cond (holds x a) (high x) a)) ≡ false
not_held x xs a s = go (holds x a) refl (leb (high x) a) refl
  where
    go : (t : Bool) → holds x a ≡ t → (u : Bool) → leb (high x) a ≡ u → holds x (reach xs (cond t (high x) a)) ≡ false
    go true p u q = holds_not x (reach xs (high x)) (reach_from xs (high x))
    go false p true q = holds_not x (reach xs a) (omega (arith, leb-true (high x) a q, reach_from xs a))
    go false p false q = rw (after_nowhere x xs a s (leb-false _ _ q)).0 p

reach_stops : (es : List Extent) (a : ℕ) → Apart es → somewhere (located es (reach es a)) ≡ false
unfolding reach located
reach_stops [] a s = refl
reach_stops (x ∷ xs) a s = rw (not_held x xs a s.0) (reach_stops xs (cond (holds x a) (high x) a) s.1)

-- a range of which each byte lies somewhere is valid
pub valid_of : (es : List Extent) (a n : ℕ) → Apart es → ((k : ℕ) → k < n → somewhere (located es (a + k)) ≡ true) → valid es a n ≡ true
unfolding valid
valid_of es a n s f = go (leb (a + n) (reach es a)) refl
  where
    go : (t : Bool) → leb (a + n) (reach es a) ≡ t → leb (a + n) (reach es a) ≡ true
    go true e = e
    go false e =
        let l : reach es a < a + n = leb-false _ _ e in
        let z : a + (reach es a - a) ≡ reach es a = omega (arith, reach_from es a) in
        absurd (true≢false (sym (f (reach es a - a) (omega (arith, reach_from es a))) ∙ rw z (reach_stops es a s)))

-- A single address is valid where it lies somewhere.

held_passed : (es : List Extent) (a : ℕ) → somewhere (located es a) ≡ true → a < reach es a
unfolding reach located
held_passed [] a e = absurd (true≢false (sym e))
held_passed (x ∷ xs) a e = go (held_passed xs a) (holds x a) refl e
  where
    go : (somewhere (located xs a) ≡ true → a < reach xs a) → (t : Bool) → holds x a ≡ t → somewhere (cond t (Some (host_offset x (record { 0 = a }))) (located xs a)) ≡ true → a < reach xs (cond t (high x) a)
    go ih true p q = omega (arith, holds_high x a p, reach_from xs (high x))
    go ih false p q = ih q

module _ (es : List Extent) (a : ℕ) where
  pub at_valid : (h : Host) → located es a ≡ Some h → true ≡ valid es a 1
  unfolding valid
  at_valid h e = sym (le-leb (a + 1) (reach es a) (omega (arith, held_passed es a (ap somewhere e))))

  pub nowhere_valid : located es a ≡ None → false ≡ valid es a 1
  nowhere_valid e = go (valid es a 1) refl
    where
      go : (t : Bool) → valid es a 1 ≡ t → false ≡ t
      go true v = absurd (true≢false (sym (simp add-zero at (valid_at es a 1 0 v (omega arith))) ∙ ap somewhere e))
      go false v = refl
