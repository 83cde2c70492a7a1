-- Tests of a number, and over the numbers below a limit: what the rules say of "each", "any" and "the first".
use Rattle.std.specs.Prelude.{Bool, true, false, ◌&&◌, ◌||◌, cond, List, [], ◌++◌, ℕ, zero, suc, ◌^◌, leb, eqb, Option, Some, None}

-- p holds of some number below n
unfoldable pub some_below : ℕ → (ℕ → Bool) → Bool
some_below zero p = false
some_below (suc n) p = some_below n p || p n

-- p holds of each number below n
unfoldable pub all_below : ℕ → (ℕ → Bool) → Bool
all_below zero p = true
all_below (suc n) p = all_below n p && p n

-- NUMBER is_from LEAST to MOST
infix 40 ◌is_from◌to◌
abbrev pub ◌is_from◌to◌ : ℕ → ℕ → ℕ → Bool
◌is_from◌to◌ n least most = leb least n && leb n most

-- power_of_two NUMBER from LEAST to MOST; a number has 64 bits
infix 40 power_of_two◌from◌to◌
unfoldable pub power_of_two◌from◌to◌ : ℕ → ℕ → ℕ → Bool
power_of_two◌from◌to◌ n least most = some_below 64 (λ k. eqb n (2 ^ k)) && (n is_from least to most)

-- the place that was found before, or n if the test holds there
abbrev pub found_or : Option ℕ → Bool → ℕ → Option ℕ
found_or None b n = cond b (Some n) None
found_or (Some i) b n = Some i

-- the first number below n of which p holds
unfoldable pub first_below : ℕ → (ℕ → Bool) → Option ℕ
first_below zero p = None
first_below (suc n) p = found_or (first_below n p) (p n) n

-- the scan found something
abbrev pub is_found : Option ℕ → Bool
is_found None = false
is_found (Some i) = true

-- what f gives for each number below n, one behind the other
unfoldable pub each_below : ℕ → (ℕ → List ℕ) → List ℕ
each_below zero f = []
each_below (suc n) f = each_below n f ++ f n
