-- The entries of a mondo's list: by their places, and as a list that begins with the first.
use mathlib.Core.Path.{◌≡◌, refl, ◌∙◌}
use mathlib.Core.List.{List, [], ◌∷◌, ◌++◌}
use mathlib.Core.Logic.{⊎_elim}
use Prim.Native.Nat.{ℕ, zero, suc, ◌+◌, ◌*◌, ◌≤◌, ◌<◌}
use native.Mathlib.Nat.{eq-or-lt_of_le, add-zero}
use native.Mathlib.Omega.{arith}
use lib.ListN.{length, get_or, length-append, get_or-append}
use lib.Seq.{get_or-append-add}
use Rattle.rules.specs.Mondo.{listed_cpu, listed_cpus}

-- P holds of each number of a list
abbrev pub Each : (ℕ → Type 0) → List ℕ → Type 0
Each P [] = Unit {0}
Each P (x ∷ xs) = P x × Each P xs

each_more : (P : ℕ → Type 0) (x : ℕ) (xs : List ℕ) → Each P xs → P x → Each P (xs ++ (x ∷ []))
each_more P x [] b h = (h, tt)
each_more P x (y ∷ ys) b h = (b.0, each_more P x ys b.1 h)

pub each_at : (P : ℕ → Type 0) (l : List ℕ) (i : ℕ) → Each P l → i < length l → P (get_or l i 0)
each_at P [] i b h = absurd (omega arith)
each_at P (x ∷ xs) zero b h = b.0
each_at P (x ∷ xs) (suc i) b h = each_at P xs i b.1 (omega arith)

module _ (byte : ℕ → ℕ) (list : ℕ) where
  pub listed_length : (n : ℕ) → length (listed_cpus byte list n) ≡ n
  unfolding listed_cpus
  listed_length zero = refl
  listed_length (suc n) = rw (length-append, listed_length n) (omega arith)

  pub listed_at : (n i : ℕ) → i < n → get_or (listed_cpus byte list n) i 0 ≡ listed_cpu byte list i
  unfolding listed_cpus
  listed_at zero i h = absurd (omega arith)
  listed_at (suc n) i h =
      let k : i ≤ n = omega arith in
      ⊎_elim
      (λ e.
      let q : get_or (listed_cpus byte list n ++ (listed_cpu byte list n ∷ [])) (length (listed_cpus byte list n) + 0) 0 ≡ listed_cpu byte list n = get_or-append-add (listed_cpus byte list n) (listed_cpu byte list n ∷ []) 0 0 in
      rw e (simp (add-zero, listed_length) at q))
      (λ l. get_or-append (listed_cpus byte list n) _ 0 i (rw listed_length l) ∙ listed_at n i l)
      (eq-or-lt_of_le k)

  -- what holds at each place holds of each entry
  pub listed_each : (P : ℕ → Type 0) (n : ℕ) → ((i : ℕ) → i < n → P (listed_cpu byte list i)) → Each P (listed_cpus byte list n)
  unfolding listed_cpus
  listed_each P zero f = tt
  listed_each P (suc n) f = each_more P (listed_cpu byte list n) (listed_cpus byte list n) (listed_each P n (λ i h. f i (omega arith))) (f n (omega arith))

-- the first, and those behind it
pub listed_cons : (byte : ℕ → ℕ) (list n : ℕ) → listed_cpus byte list (suc n) ≡ listed_cpu byte list 0 ∷ listed_cpus byte (list + 2) n
unfolding listed_cpus
listed_cons byte list zero = refl
listed_cons byte list (suc n) =
    let e : list + 2 * suc n ≡ list + 2 + 2 * n = omega arith in
    rw (listed_cons byte list n, e)
