-- A valid range ends below 2^64, since the numbers of an extent are those of its types.
use Rattle.std.proofs.Common.{Some}
use mathlib.Core.Path.{◌≡◌, refl}
use mathlib.Core.Bool.{Bool, true, false, cond, false≢true}
use mathlib.Core.List.{List, [], ◌∷◌}
use Prim.Native.Nat.{ℕ, zero, suc, ◌+◌, ◌-◌, ◌^◌, ◌<◌}
use native.Mathlib.Omega.{arith}
use lib.ListN.{take}
use mir.Val.{Val}
use denote.Array.{each}
use denote.Laws.{Is}
use denote.Shadow.{shadow}
use denote.Struct.Declared.{row}
use Rattle.rules.specs.declared.Extent.{Extent}
use Rattle.rules.specs.declared.Extents.{Extents}
use Rattle.rules.specs.Real.{holds, host_offset, valid, located}
use Rattle.rules.specs.contracts.Extent as one
use Rattle.rules.specs.contracts.Extents as several
use Rattle.memory.specs.Cells.{somewhere}
use Rattle.memory.specs.Ready.{present}
use Rattle.memory.proofs.Holds.{holds_high}
use Rattle.memory.proofs.Places.{valid_at}

-- the numbers of each extent are those of its types
abbrev Typed : List Extent → Type 0
Typed [] = Unit {0}
Typed (x ∷ xs) = ((x.real < 2 ^ 32) × (x.count < 2 ^ 16)) × Typed xs

typed_take : (n : ℕ) (xs : List Extent) → Typed xs → Typed (take n xs)
typed_take zero xs h = tt
typed_take (suc n) [] h = tt
typed_take (suc n) (x ∷ xs) h = (h.0, typed_take n xs h.1)

typed_each : (xs : List Extent) (us : List Val) → shadow (each (one.the_row).Denot (one.the_row).own_val xs us) → Typed xs
typed_each [] us s = tt
typed_each (x ∷ xs) [] s = absurd s
typed_each (x ∷ xs) (u ∷ us) s = ((omega arith, omega arith), typed_each xs us s.1)

-- which the code knows of a guest's extents
typed_extents : (e : Extents) (vs : List Val) → Is (row several.the_type) e vs → Typed (present e)
typed_extents e vs g = typed_take e.extents e.extent (typed_each e.extent g.1.1.1.0.0 g.1.1.1.0.1.1)

-- an address that lies in an extent
reaches : (es : List Extent) (a : ℕ) → Typed es → somewhere (located es a) ≡ true → a + 1 < 2 ^ 64
unfolding located
reaches [] a h v = absurd (false≢true v)
reaches (x ∷ xs) a h v = go (λ w. reaches xs a h.1 w) (holds x a) refl v
  where
    go : (somewhere (located xs a) ≡ true → a + 1 < 2 ^ 64) → (t : Bool) → holds x a ≡ t → somewhere (cond t (Some (host_offset x (record { 0 = a }))) (located xs a)) ≡ true → a + 1 < 2 ^ 64
    go ih true p q = omega (arith, h.0.0, h.0.1, holds_high x a p)
    go ih false p q = ih q

pub range_ends : (e : Extents) (vs : List Val) (b n : ℕ) → Is (row several.the_type) e vs → valid (present e) b n ≡ true → 0 < n → b + n < 2 ^ 64
range_ends e vs b n g v h =
    omega (arith, reaches (present e) (b + (n - 1)) (typed_extents e vs g) (valid_at (present e) b n (n - 1) v (omega arith)))
