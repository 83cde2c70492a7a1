-- From the fields that the code read to the event that they make.
use Rattle.std.specs.Prelude.{if◌then◌else◌, Option, Some, None}
use mathlib.Core.Bool.{Bool, true, false, and-false}
use mathlib.Core.Path.{◌≡◌, refl, sym, ap, ◌∙◌}
use mathlib.Core.List.{List, ◌++◌}
use Prim.Native.Nat.{ℕ, zero, suc, ◌+◌, ◌-◌, ◌<◌, ◌≤◌}
use native.Mathlib.Omega.{arith}
use lib.Dec.{leb}
use lib.ListN.{length, get_or, take, drop, replicate, length-append}
use lib.Seq.{take-append_seam, get_or-append-add, get_or-drop}
use borrow.Author.Tests.{leb-false, lt-leb, ne_eqb}
use Rattle.rules.specs.Text.{bad, event_or, event_line}
use Rattle.text.specs.declared.line.Line.{Line as Told}
use Rattle.text.specs.declared.fields.Fields.{Fields}
use Rattle.text.specs.Gathered.{fields_of, fields_or, ZeroFrom}
use Rattle.text.specs.Lines.{told}

-- an event that has more fields than any
too_many : (word ns : List ℕ) → 9 < length ns → bad ≡ event_line word ns
unfolding event_line
too_many word ns h =
    simp (
      lt-leb (length ns) 9 h,
      ne_eqb (length ns) 4 (λ e. omega arith),
      ne_eqb (length ns) 2 (λ e. omega arith),
      ne_eqb (length ns) 3 (λ e. omega arith),
      ne_eqb (length ns) 6 (λ e. omega arith),
      and-false,
    )

-- fields that are right
pub record Right (o : Option (List ℕ)) (f : Fields) : Type 0 where
  pub ns : List ℕ
  pub read : o ≡ Some ns
  pub held : f ≡ fields_of ns

zero_at : (n k : ℕ) → ◌≡◌ {A = ℕ} (get_or (replicate n 0) k 0) 0
zero_at zero k = refl
zero_at (suc n) zero = refl
zero_at (suc n) (suc k) = zero_at n k

module _ (ns : List ℕ) where
  abbrev padded : List ℕ
  padded = ns ++ drop (length ns) (replicate 9 0)

  zeros_behind : ZeroFrom (length ns) padded
  zeros_behind k h =
      let q : k ≡ length ns + (k - length ns) = omega arith in
      rw (q, get_or-append-add ns, get_or-drop) (zero_at 9 (length ns + (k - length ns)))

  module _ (f : Fields) (e : f ≡ fields_of ns) where
    right_held : (f.numbers ≤ length f.number) × ZeroFrom f.numbers f.number
    right_held = rw e (rw length-append (omega arith), zeros_behind)

    pub right_first : take f.numbers f.number ≡ ns
    right_first = rw (e, take-append_seam)

module _ (o : Option (List ℕ)) (f : Fields) (e : Some f ≡ fields_or o) where
  pub right_told : Right o f
  unfolding fields_or
  right_told = go o e
    where
      pick : (ns : List ℕ) (t : Bool) → Some f ≡ (if t then Some (fields_of ns) else None) → Right (Some ns) f
      pick ns true q = record { ns = ns; read = refl; held = cc }
      pick ns false q = cc

      go : (p : Option (List ℕ)) → Some f ≡ fields_or p → Right p f
      go None q = cc
      go (Some ns) q = pick ns (leb (length ns) 9) q

  pub event_held : (f.numbers ≤ length f.number) × ZeroFrom f.numbers f.number
  event_held = right_held right_told.ns f right_told.held

  pub event_good : (word : List ℕ) (r : Told) → r ≡ told (event_line word (take f.numbers f.number)) → r ≡ told (event_or word o)
  event_good word r q =
      q ∙ ap (λ (l : List ℕ). told (event_line word l)) (right_first right_told.ns f right_told.held) ∙ sym (ap (λ (p : Option (List ℕ)). told (event_or word p)) right_told.read)

-- fields that are not right
pub event_bad : (o : Option (List ℕ)) → None ≡ fields_or o → (word : List ℕ) → Told.Bad ≡ told (event_or word o)
unfolding fields_or told
event_bad None e word = refl
event_bad (Some ns) e word = pick (leb (length ns) 9) refl e
  where
    pick : (t : Bool) → leb (length ns) 9 ≡ t → None ≡ (if t then Some (fields_of ns) else None) → Told.Bad ≡ told (event_line word ns)
    pick true l q = cc
    pick false l q = rw (← too_many word ns (leb-false _ _ l))
