-- What a plant sees after writes, said byte by byte (`over`, `after` of crate memory), is what the machine's words say.
use Rattle.std.specs.Prelude.{if◌then◌else◌}
use mathlib.Core.Path.{◌≡◌, refl, ap, ◌∙◌, fun_ext}
use mathlib.Core.Bool.{Bool, true, false, ◌&&◌, cond}
use mathlib.Core.List.{List, [], ◌∷◌}
use Prim.Native.Nat.{ℕ, suc, ◌+◌, ◌-◌, ◌<◌}
use native.Mathlib.Omega.{arith}
use lib.Dec.{leb, eqb, ltb}
use lib.ListN.{length}
use borrow.Author.Tests.{eqb-true, eqb-false, leb-true, leb-false, le-leb, lt-leb, lt-ltb, le-ltb, eq-eqb, ne_eqb}
use Rattle.rules.specs.Real.{Sight, Write}
use Rattle.memory.proofs.Sights.{upd, over, after}
use Rattle.promises.specs.Machine.{covers, written, all_written}

abbrev from : ℕ → List ℕ → Write
from a vs = record { at = a; bytes = vs }

pub over_valid : (vs : List ℕ) (s : Sight) (a : ℕ) → (over s a vs).valid ≡ s.valid
unfolding over
over_valid [] s a = refl
over_valid (v ∷ vs) s a = over_valid vs (upd s a v) (suc a)

covers_none : (a b : ℕ) → covers (from a []) b ≡ false
covers_none a b = go (leb a b) refl
  where
    go : (t : Bool) → leb a b ≡ t → (t && ltb b (a + 0)) ≡ false
    go true e = le-ltb b (a + 0) (omega (arith, leb-true a b e))
    go false e = refl

-- one byte in front of others: below it, at it, and past it
module _ (s : Sight) (a v : ℕ) (vs : List ℕ) (b : ℕ) where
  abbrev Step : Type 0
  Step = (written (upd s a v) (from (suc a) vs)).byte b ≡ (written s (from a (v ∷ vs))).byte b

  step_below : b < a → Step
  step_below l = rw (lt-leb (suc a) b (omega arith), lt-leb a b l, ne_eqb b a (λ q. omega arith))

  step_at : b ≡ a → Step
  step_at q =
      let none : b - a ≡ 0 = omega arith in
      rw (lt-leb (suc a) b (omega arith), le-leb a b (omega arith), lt-ltb b (a + suc (length vs)) (omega arith), eq-eqb b a q, none, q)
      (go (s.valid a 1))
    where
      go : (t : Bool) → cond t v (s.byte a) ≡ (if t then v else s.byte a)
      go true = refl
      go false = refl

  step_past : a < b → Step
  step_past l =
      let more : b - a ≡ suc (b - suc a) = omega arith in
      let end : suc a + length vs ≡ a + suc (length vs) = omega arith in
      rw (le-leb (suc a) b (omega arith), le-leb a b (omega arith), ne_eqb b a (λ q. omega arith), more, end)

  step : Step
  step = go (eqb b a) refl (leb a b) refl
    where
      go : (t : Bool) → eqb b a ≡ t → (u : Bool) → leb a b ≡ u → Step
      go true e u f = step_at (eqb-true b a e)
      go false e true f = step_past (omega (arith, eqb-false b a e, leb-true a b f))
      go false e false f = step_below (leb-false a b f)

over_byte : (vs : List ℕ) (s : Sight) (a b : ℕ) → (over s a vs).byte b ≡ (written s (from a vs)).byte b
unfolding over
over_byte [] s a b = rw (covers_none a b)
over_byte (v ∷ vs) s a b = over_byte vs (upd s a v) (suc a) b ∙ step s a v vs b

pub over_written : (vs : List ℕ) (s : Sight) (a : ℕ) → over s a vs ≡ written s (from a vs)
over_written vs s a = λ i. record { valid = over_valid vs s a i; byte = fun_ext (λ b. over_byte vs s a b) i }

pub after_written : (ws : List Write) (s : Sight) → after s ws ≡ all_written s ws
unfolding after all_written
after_written [] s = refl
after_written (w ∷ ws) s = after_written ws (over s w.at w.bytes) ∙ ap (λ (t : Sight). all_written t ws) (over_written w.bytes s w.at)
