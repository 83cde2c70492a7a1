-- Laws of the scans, for any loop that counts up: i is the loop's index, n its end, and t what the code's test at i came to.
use Rattle.std.proofs.Common.{Option, Some, None}
use mathlib.Core.Bool.{Bool, true, false, ◌||◌, or-true, and-false, true≢false, false≢true}
use mathlib.Core.Path.{◌≡◌, refl, sym, ap, ◌∙◌}
use mathlib.Core.Logic.{⊎_elim}
use Prim.Native.Nat.{ℕ, zero, suc, ◌+◌, ◌<◌, ◌≤◌}
use native.Mathlib.Nat.{eq-or-lt_of_le}
use native.Mathlib.Numerals.{add-one}
use native.Mathlib.Omega.{arith}
use Rattle.rules.specs.Scan.{some_below, all_below, first_below, found_or, is_found}

-- a search for some number
module _ (p : ℕ → Bool) where
  pub some_start : some_below 0 p ≡ false
  unfolding some_below
  some_start = refl

  pub some_next : (i : ℕ) (t : Bool) → some_below i p ≡ false → t ≡ p i → t ≡ false → some_below (i + 1) p ≡ false
  unfolding some_below
  some_next i t a b e = rw (add-one, a, ← b, e)

  pub some_end : (i n : ℕ) → some_below i p ≡ false → i ≤ n → n ≤ i → false ≡ some_below n p
  some_end i n a u v =
      let q : i ≡ n = omega arith in
      sym (rw q at a)

  some_at : (i n : ℕ) → i < n → p i ≡ true → true ≡ some_below n p
  unfolding some_below
  some_at i zero h e = absurd (omega arith)
  some_at i (suc n) h e =
      let k : i ≤ n = omega arith in
      ⊎_elim (λ q. rw (← q, e, or-true)) (λ l. rw (← some_at i n l e)) (eq-or-lt_of_le k)

  pub some_found : (i n : ℕ) (t : Bool) → i < n → t ≡ p i → t ≡ true → true ≡ some_below n p
  some_found i n t h b e = some_at i n h (sym b ∙ e)

-- none of the numbers below n
pub none_at : (p : ℕ → Bool) (n i : ℕ) → some_below n p ≡ false → i < n → p i ≡ false
none_at p n i a h = go (p i) refl
  where
    go : (t : Bool) → p i ≡ t → p i ≡ false
    go true e = absurd (false≢true (sym a ∙ sym (some_at p i n h e)))
    go false e = e

pub none_of : (p : ℕ → Bool) (n : ℕ) → ((i : ℕ) → i < n → p i ≡ false) → some_below n p ≡ false
unfolding some_below
none_of p zero f = refl
none_of p (suc n) f = rw (none_of p n (λ i h. f i (omega arith)), f n (omega arith))

-- tests that say the same of each number below n
pub some_same : (p q : ℕ → Bool) (n : ℕ) → ((i : ℕ) → i < n → p i ≡ q i) → some_below n p ≡ some_below n q
unfolding some_below
some_same p q zero f = refl
some_same p q (suc n) f = rw (some_same p q n (λ i h. f i (omega arith)), f n (omega arith))

pub all_same : (p q : ℕ → Bool) (n : ℕ) → ((i : ℕ) → i < n → p i ≡ q i) → all_below n p ≡ all_below n q
unfolding all_below
all_same p q zero f = refl
all_same p q (suc n) f = rw (all_same p q n (λ i h. f i (omega arith)), f n (omega arith))

-- a test of each number
module _ (p : ℕ → Bool) where
  pub all_start : all_below 0 p ≡ true
  unfolding all_below
  all_start = refl

  pub all_next : (i : ℕ) (t : Bool) → all_below i p ≡ true → t ≡ p i → t ≡ true → all_below (i + 1) p ≡ true
  unfolding all_below
  all_next i t a b e = rw (add-one, a, ← b, e)

  pub all_end : (i n : ℕ) → all_below i p ≡ true → i ≤ n → n ≤ i → true ≡ all_below n p
  all_end i n a u v =
      let q : i ≡ n = omega arith in
      sym (rw q at a)

  fails_at : (i n : ℕ) → i < n → p i ≡ false → false ≡ all_below n p
  unfolding all_below
  fails_at i zero h e = absurd (omega arith)
  fails_at i (suc n) h e =
      let k : i ≤ n = omega arith in
      ⊎_elim (λ q. rw (← q, e, and-false)) (λ l. rw (← fails_at i n l e)) (eq-or-lt_of_le k)

  pub all_fails : (i n : ℕ) (t : Bool) → i < n → t ≡ p i → t ≡ false → false ≡ all_below n p
  all_fails i n t h b e = fails_at i n h (sym b ∙ e)

-- each of the numbers below n
pub all_at : (p : ℕ → Bool) (n i : ℕ) → all_below n p ≡ true → i < n → p i ≡ true
all_at p n i a h = go (p i) refl
  where
    go : (t : Bool) → p i ≡ t → p i ≡ true
    go true e = e
    go false e = absurd (true≢false (sym a ∙ sym (fails_at p i n h e)))

pub all_of : (p : ℕ → Bool) (n : ℕ) → ((i : ℕ) → i < n → p i ≡ true) → all_below n p ≡ true
unfolding all_below
all_of p zero f = refl
all_of p (suc n) f = rw (all_of p n (λ i h. f i (omega arith)), f n (omega arith))

-- the first number
module _ (p : ℕ → Bool) where
  pub first_start : first_below 0 p ≡ None
  unfolding first_below
  first_start = refl

  pub first_next : (i : ℕ) (t : Bool) → first_below i p ≡ None → t ≡ p i → t ≡ false → first_below (i + 1) p ≡ None
  unfolding first_below
  first_next i t a b e = rw (add-one, a, ← b, e)

  pub first_end : (i n : ℕ) → first_below i p ≡ None → i ≤ n → n ≤ i → None ≡ first_below n p
  first_end i n a u v =
      let q : i ≡ n = omega arith in
      sym (rw q at a)

  first_at : (i n : ℕ) → i < n → first_below i p ≡ None → p i ≡ true → Some i ≡ first_below n p
  unfolding first_below
  first_at i zero h a e = absurd (omega arith)
  first_at i (suc n) h a e =
      let k : i ≤ n = omega arith in
      ⊎_elim (λ q. rw (← q, a, e)) (λ l. rw (← first_at i n l a e)) (eq-or-lt_of_le k)

  pub first_found : (i n : ℕ) (t : Bool) → i < n → first_below i p ≡ None → t ≡ p i → t ≡ true → Some i ≡ first_below n p
  first_found i n t h a b e = first_at i n h a (sym b ∙ e)

pub nothing_of : (p : ℕ → Bool) (n : ℕ) → ((i : ℕ) → i < n → p i ≡ false) → first_below n p ≡ None
unfolding first_below
nothing_of p zero f = refl
nothing_of p (suc n) f = rw (nothing_of p n (λ i h. f i (omega arith)), f n (omega arith))

-- tests that say the same of each number below n
pub first_same : (p q : ℕ → Bool) (n : ℕ) → ((i : ℕ) → i < n → p i ≡ q i) → first_below n p ≡ first_below n q
unfolding first_below
first_same p q zero f = refl
first_same p q (suc n) f = rw (first_same p q n (λ i h. f i (omega arith)), f n (omega arith))

-- something is found where the test holds of some number
pub found_some : (p : ℕ → Bool) (n : ℕ) → is_found (first_below n p) ≡ some_below n p
unfolding first_below some_below
found_some p zero = refl
found_some p (suc n) = rw (← found_some p n) (go (first_below n p) (p n))
  where
    go : (x : Option ℕ) (t : Bool) → is_found (found_or x t n) ≡ (is_found x || t)
    go None true = refl
    go None false = refl
    go (Some i) t = refl

-- of the numbers below n, where nothing is found
pub unfound_at : (p : ℕ → Bool) (n i : ℕ) → is_found (first_below n p) ≡ false → i < n → p i ≡ false
unfound_at p n i a h = none_at p n i (sym (found_some p n) ∙ a) h

pub nothing_at : (p : ℕ → Bool) (n i : ℕ) → first_below n p ≡ None → i < n → p i ≡ false
nothing_at p n i a h = unfound_at p n i (ap is_found a) h

-- what is found lies below the limit
pub first_below_lem : (n i : ℕ) (p : ℕ → Bool) → first_below n p ≡ Some i → i < n
unfolding first_below
first_below_lem zero i p e = let z : ◌≡◌ {A = ℕ} 0 1 = cc in absurd (omega arith)
first_below_lem (suc n) i p e = go (λ q. first_below_lem n i p q) (first_below n p) (p n) refl e
  where
    go : (first_below n p ≡ Some i → i < n) → (x : Option ℕ) (t : Bool) → first_below n p ≡ x → found_or x t n ≡ Some i → i < suc n
    go below None true q f = let z : n ≡ i = cc in omega arith
    go below None false q f = let z : ◌≡◌ {A = ℕ} 0 1 = cc in absurd (omega arith)
    go below (Some j) t q f = omega (arith, below (q ∙ f))

-- the test holds of what is found, and of no number before it
pub first_tells : (p : ℕ → Bool) (n i : ℕ) → first_below n p ≡ Some i → (p i ≡ true) × (first_below i p ≡ None)
unfolding first_below
first_tells p zero i e = absurd (let z : ◌≡◌ {A = ℕ} 0 1 = cc in omega arith)
first_tells p (suc n) i e = go (λ q. first_tells p n i q) (first_below n p) (p n) refl refl e
  where
    go : (first_below n p ≡ Some i → (p i ≡ true) × (first_below i p ≡ None)) → (x : Option ℕ) (t : Bool) → first_below n p ≡ x → p n ≡ t → found_or x t n ≡ Some i → (p i ≡ true) × (first_below i p ≡ None)
    go before None true q u f =
        let z : n ≡ i = cc in
        (rw (← z) u, rw (← z) q)
    go before None false q u f = absurd (let z : ◌≡◌ {A = ℕ} 0 1 = cc in omega arith)
    go before (Some j) t q u f = before (q ∙ f)
