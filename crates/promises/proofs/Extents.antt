-- Request No. 6, "Refusals: 111 for 0 extents only": the limit is the most that three bits hold.
use mathlib.Core.Path.{◌≡◌, refl}
use mathlib.Core.Bool.{true, ◌&&◌, not}
use mathlib.Core.List.{List}
use Prim.Native.Nat.{ℕ, zero, suc, ◌+◌, ◌^◌, ◌<◌}
use native.Mathlib.Omega.{arith}
use lib.Dec.{leb, eqb}
use borrow.Author.Tests.{le-leb, ne_eqb}
use Rattle.rules.specs.declared.ImageRefusal.TheVariants.{HeaderOrCount}
use Rattle.rules.specs.Limits.{extent_limit}
use Rattle.rules.specs.Widths.{extents_width}
use Rattle.rules.specs.Bits.{field_at, reaches}
use Rattle.rules.specs.Rulings.{granted, ◌or_refuse◌then◌}
use Rattle.rules.specs.Image.{◌bits_at◌of◌from◌to◌else◌}
use Rattle.bits.proofs.FieldLaws.{field_lt}

-- a number of three bits is within the limits unless it is 0
within_limits : (n : ℕ) → n < 2 ^ extents_width → (leb 1 n && leb n extent_limit) ≡ not (eqb n 0)
within_limits zero h = refl
within_limits (suc n) h = rw (le-leb 1 (suc n) (omega arith), le-leb (suc n) extent_limit (omega arith), ne_eqb (suc n) 0 (λ e. omega arith))

-- A count of extents that is there is refused where it is 0, and granted where it is anything else.
pub only_none_refused : (bytes : List ℕ) (g at : ℕ) → reaches bytes (at + extents_width) ≡ true
    → (extents_width bits_at at of bytes from 1 to extent_limit else HeaderOrCount g)
    ≡ (not (eqb (field_at bytes at extents_width) 0) or_refuse HeaderOrCount g then granted (field_at bytes at extents_width))
unfolding ◌bits_at◌of◌from◌to◌else◌
only_none_refused bytes g at there = rw (there, within_limits (field_at bytes at extents_width) (field_lt bytes at extents_width))
