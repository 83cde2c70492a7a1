-- Laws of texts that stand one behind the other, for any loop that writes them.
use Prim.Native.Nat.{ℕ, zero, suc, ◌+◌, ◌*◌, ◌<◌, ◌≤◌}
use mathlib.Core.Path.{◌≡◌, refl}
use mathlib.Core.List.{List}
use native.Mathlib.Nat.{mul-suc}
use native.Mathlib.Numerals.{add-one}
use native.Mathlib.Omega.{arith}
use lib.ListN.{length, length-append}
use Rattle.rules.specs.Scan.{each_below}
use Rattle.text.specs.Put.{Put}
use Rattle.text.proofs.PutLaws.{put_behind}

-- n texts of at most b bytes
pub each_most : (f : ℕ → List ℕ) (b n : ℕ) → ((i : ℕ) → i < n → length (f i) ≤ b) → length (each_below n f) ≤ b * n
unfolding each_below
each_most f b zero h = omega arith
each_most f b (suc n) h =
    rw (length-append, mul-suc) (omega (arith, each_most f b n (λ i l. h i (omega arith)), h n (omega arith)))

-- what a loop that counts up has written over m from a place on
module _ (f : ℕ → List ℕ) (m : List ℕ) (from : ℕ) where
  pub each_start : Put m m from from (each_below 0 f)
  unfolding each_below
  each_start = record { behind = omega arith; bytes = refl }

  module _ (i at : ℕ) (o : List ℕ) (w : Put m o from at (each_below i f)) where
    pub each_next : (p : List ℕ) (r : ℕ) → Put o p at r (f i) → Put m p from r (each_below (i + 1) f)
    unfolding each_below
    each_next p r v = rw (add-one i) (put_behind (each_below i f) (f i) m o p from at r w v)

    pub each_end : (n : ℕ) → i ≤ n → n ≤ i → Put m o from at (each_below n f)
    each_end n u v =
        let q : i ≡ n = omega arith in
        rw q at w

    pub each_place : (b : ℕ) → ((k : ℕ) → k < i → length (f k) ≤ b) → at ≤ from + b * i
    each_place b h = omega (arith, w.behind, each_most f b i h)
