-- Laws of the bits that fill the last byte.
use Rattle.std.specs.Int.{div_ceil}
use mathlib.Core.Path.{◌≡◌}
use mathlib.Core.List.{List}
use Prim.Native.Nat.{ℕ, ◌+◌, ◌-◌, ◌*◌, ◌/◌, ◌%◌}
use native.Mathlib.Omega.{arith}
use lib.ListN.{length}
use lib.Dec.{eqb}
use borrow.Author.Tests.{eq-eqb, ne_eqb}
use Rattle.rules.specs.Bits.{field_at}
use Rattle.rules.specs.Image.{filled_out}

-- n is the bytes that hold the bits
module _ (s : List ℕ) (end n : ℕ) (bytes : n ≡ div_ceil end 8) where
  pub fill_behind : (length s ≡ n → ⊥) → eqb (length s) n ≡ filled_out s end
  unfolding filled_out
  fill_behind d = rw (ne_eqb (length s) n d, ne_eqb (length s) ((end + 7) / 8) (λ e. d (omega arith)))

  pub fill_bits : (v : ℕ) → length s ≡ n → v ≡ field_at s end ((8 - end % 8) % 8) → eqb v 0 ≡ filled_out s end
  unfolding filled_out
  fill_bits v e f =
      let q : (8 - end % 8) % 8 ≡ 8 * length s - end = omega arith in
      rw (eq-eqb (length s) ((end + 7) / 8) (omega arith), ← q, f)
