-- Lists of writes: done in two parts, and the length of the memory, which they keep.
use Rattle.std.proofs.Common.{Option, Some, None}
use Rattle.rules.specs.declared.Host.{Host}
use mathlib.Core.Path.{◌≡◌, refl, ◌∙◌}
use mathlib.Core.List.{List, [], ◌∷◌, ◌++◌}
use Prim.Native.Nat.{ℕ, suc, ◌+◌}
use native.Mathlib.Nat.{add-zero}
use native.Mathlib.Omega.{arith}
use lib.ListN.{length, length-set}
use Rattle.rules.specs.declared.Extent.{Extent}
use Rattle.rules.specs.Real.{located, put_there, put_bytes, Write, apply}

module _ (es : List Extent) where
  -- writes one after another, and the bytes of one write so
  pub apply_append : (ws vs : List Write) (m : List ℕ) → apply es m (ws ++ vs) ≡ apply es (apply es m ws) vs
  unfolding apply
  apply_append [] vs m = refl
  apply_append (w ∷ ws) vs m = apply_append ws vs (put_bytes es m w.at w.bytes)

  pub put_append : (us vs m : List ℕ) (a : ℕ) → put_bytes es m a (us ++ vs) ≡ put_bytes es (put_bytes es m a us) (a + length us) vs
  unfolding put_bytes
  put_append [] vs m a = rw add-zero
  put_append (u ∷ us) vs m a =
      let e : a + suc (length us) ≡ suc a + length us = omega arith in
      rw e (put_append us vs (put_there m (located es a) u) (suc a))

  -- the memory's length
  pub there_length : (m : List ℕ) (p : Option Host) (v : ℕ) → length (put_there m p v) ≡ length m
  there_length m None v = refl
  there_length m (Some h) v = length-set m h.0 v

  pub put_length : (vs m : List ℕ) (a : ℕ) → length (put_bytes es m a vs) ≡ length m
  unfolding put_bytes
  put_length [] m a = refl
  put_length (v ∷ vs) m a = put_length vs (put_there m (located es a) v) (suc a) ∙ there_length m (located es a) v

  pub apply_length : (ws : List Write) (m : List ℕ) → length (apply es m ws) ≡ length m
  unfolding apply
  apply_length [] m = refl
  apply_length (w ∷ ws) m = apply_length ws (put_bytes es m w.at w.bytes) ∙ put_length w.bytes m w.at
