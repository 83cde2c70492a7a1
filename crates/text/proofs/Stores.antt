-- Laws of an array that is filled from the front.
use mathlib.Core.Path.{◌≡◌}
use mathlib.Core.List.{List, [], ◌∷◌, ◌++◌}
use Prim.Native.Nat.{ℕ, suc, ◌+◌}
use native.Mathlib.Nat.{add-zero}
use native.Mathlib.Omega.{arith}
use lib.ListN.{length, set}
use lib.Seq.{sets}

-- a run of stores behind another
pub sets_append : (l k m : List ℕ) (i : ℕ) → sets (sets m i l) (i + length l) k ≡ sets m i (l ++ k)
sets_append [] k m i = rw add-zero
sets_append (a ∷ l) k m i =
    let e : i + suc (length l) ≡ suc i + length l = omega arith in
    rw e (sets_append l k (set m i a) (suc i))
