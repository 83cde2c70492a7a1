-- Laws of digits and of the number that they make.
use Rattle.std.specs.Prelude.{if◌then◌else◌, Option, Some, None}
use mathlib.Core.Bool.{Bool, true, false, ◌&&◌}
use mathlib.Core.Path.{◌≡◌, refl, sym, ◌∙◌}
use mathlib.Core.List.{List}
use Prim.Native.Nat.{ℕ, suc, ◌+◌, ◌-◌, ◌*◌, ◌^◌, ◌<◌, ◌≤◌}
use native.Mathlib.Nat.{pow-suc, pow-le-pow_right}
use native.Mathlib.Numerals.{add-one}
use native.Mathlib.Omega.{arith}
use lib.Dec.{leb}
use lib.ListN.{length, get_or, drop, drop_of_length-le}
use lib.Seq.{drop-cons}
use borrow.Author.Tests.{leb-true, le-leb, lt-leb}
use Rattle.rules.specs.Text.{digit_of, digits, consed, value_of, numbered, field}
use Rattle.rules.proofs.Tests.{and_right}

-- the three kinds of digits
module _ (b : ℕ) where
  abbrev tenth : Bool
  tenth = leb 0x30 b && leb b 0x39

  abbrev lower : Bool
  lower = leb 0x61 b && leb b 0x66

  abbrev upper : Bool
  upper = leb 0x41 b && leb b 0x46

  pub digit_below : (d : ℕ) → digit_of b ≡ Some d → d < 16
  unfolding digit_of
  digit_below d = go tenth refl lower refl upper refl
    where
      go : (t : Bool) → tenth ≡ t → (l : Bool) → lower ≡ l → (u : Bool) → upper ≡ u
          → (if t then Some (b - 0x30) else if l then Some (b - 0x57) else if u then Some (b - 0x37) else None) ≡ Some d → d < 16
      go true p l q u r e = let f : b - 0x30 ≡ d = cc in omega (arith, leb-true b 0x39 (and_right (leb 0x30 b) _ p))
      go false p true q u r e = let f : b - 0x57 ≡ d = cc in omega (arith, leb-true b 0x66 (and_right (leb 0x61 b) _ q))
      go false p false q true r e = let f : b - 0x37 ≡ d = cc in omega (arith, leb-true b 0x46 (and_right (leb 0x41 b) _ r))
      go false p false q false r e = let f : ◌≡◌ {A = ℕ} 0 1 = cc in omega arith

-- the number that v makes with the digits behind it
abbrev pub valued : ℕ → Option (List ℕ) → Option ℕ
valued v None = None
valued v (Some ds) = Some (value_of v ds)

module _ (text : List ℕ) where
  pub number_none : length text < 1 → None ≡ field text
  unfolding field
  number_none h = rw (lt-leb 1 (length text) h)

  pub number_long : 16 < length text → None ≡ field text
  unfolding field
  number_long h = rw (le-leb 1 (length text) (omega arith), lt-leb (length text) 16 h)

  pub number_start : valued 0 (digits text) ≡ numbered (digits text)
  number_start = go (digits text)
    where
      go : (o : Option (List ℕ)) → valued 0 o ≡ numbered o
      go None = refl
      go (Some ds) = refl

  module _ (v i : ℕ) (e : valued v (digits (drop i text)) ≡ numbered (digits text)) where
    pub number_next : i < length text → (d : ℕ) → digit_of (get_or text i 0) ≡ Some d → valued (v * 16 + d) (digits (drop (i + 1) text)) ≡ numbered (digits text)
    unfolding digits value_of
    number_next h d q = rw (← e, drop-cons text i 0 h, q, add-one) (go (digits (drop (suc i) text)))
      where
        go : (o : Option (List ℕ)) → valued (v * 16 + d) o ≡ valued v (consed (Some d) o)
        go None = refl
        go (Some ds) = refl

    module _ (l : 1 ≤ length text) (m : length text ≤ 16) where
      field_is : (o : Option ℕ) → numbered (digits text) ≡ o → o ≡ field text
      unfolding field
      field_is o q = rw (le-leb 1 (length text) l, le-leb (length text) 16 m, q)

      pub number_bad : i < length text → digit_of (get_or text i 0) ≡ None → None ≡ field text
      unfolding digits
      number_bad h q = field_is None (sym e ∙ rw (drop-cons text i 0 h, q))

      pub number_end : length text ≤ i → Some v ≡ field text
      unfolding digits value_of
      number_end k = field_is (Some v) (sym e ∙ rw (drop_of_length-le text k))

-- i digits leave room for one more, up to the 16th
module _ (v i b d : ℕ) (h : v < 16 ^ i) (q : digit_of b ≡ Some d) where
  pub number_room : i < 16 → (v * 16 < 2 ^ 64) × (v * 16 + d < 2 ^ 64)
  number_room k = omega (arith, digit_below b d q, pow-le-pow_right {n = 16} (omega arith) {i = i} {j = 15} (omega arith))

  pub number_grows : v * 16 + d < 16 ^ (i + 1)
  number_grows = rw (add-one, pow-suc 16 i) (omega (arith, digit_below b d q))
