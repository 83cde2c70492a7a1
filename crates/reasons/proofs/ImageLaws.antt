-- Laws of an image's text, as the loop goes from one byte to the next. odd: a digit waits, whichever it is.
use Rattle.std.specs.Prelude.{if◌then◌else◌, Option, Some, None}
use mathlib.Core.Bool.{Bool, true, false, not}
use mathlib.Core.Path.{◌≡◌, refl, sym, ap, ◌∙◌}
use mathlib.Core.List.{List, [], ◌∷◌}
use Prim.Native.Nat.{ℕ, ◌+◌, ◌<◌, ◌≤◌}
use native.Mathlib.Numerals.{add-one}
use lib.ListN.{length, get_or, drop, drop_of_length-le}
use lib.Seq.{drop-cons}
use borrow.Author.Tests.{eq-eqb, ne_eqb}
use Rattle.std.specs.Option.{is_some}
use Rattle.rules.specs.Text.{space, digit_of, digits, consed, byte_of, paired, paired_or}
use Rattle.text.specs.Pieces.{unspaced}
use Rattle.reasons.specs.declared.fault.Fault.{Fault}
use Rattle.reasons.specs.declared.fault.Fault.TheVariants.{NoDigit, OddDigits}
use Rattle.reasons.specs.Faults.{why_image, ◌or_tell◌then◌}

-- the digits that are left, with one before them where it waits
abbrev waiting : Bool → Option (List ℕ) → Option (List ℕ)
waiting odd ds = if odd then consed (Some 0) ds else ds

abbrev why_digits : Option (List ℕ) → Option Fault
why_digits ds =
    is_some ds or_tell NoDigit then
    is_some (paired_or ds) or_tell OddDigits then
    None

unfoldable pub why_from : Bool → List ℕ → Option Fault
why_from odd text = why_digits (waiting odd (digits (unspaced text)))

pub image_start : (text : List ℕ) → why_from false text ≡ why_image (unspaced text)
unfolding why_from why_image
image_start text = refl

-- which digit it is does not matter
other_digit : (d : ℕ) (ds : List ℕ) → is_some (paired (d ∷ ds)) ≡ is_some (paired (0 ∷ ds))
unfolding paired
other_digit d [] = refl
other_digit d (e ∷ ds) = go (paired ds)
  where
    go : (o : Option (List ℕ)) → is_some (byte_of d e o) ≡ is_some (byte_of 0 e o)
    go None = refl
    go (Some bytes) = refl

two_digits : (d e : ℕ) (ds : List ℕ) → is_some (paired (d ∷ (e ∷ ds))) ≡ is_some (paired ds)
unfolding paired
two_digits d e ds = go (paired ds)
  where
    go : (o : Option (List ℕ)) → is_some (byte_of d e o) ≡ is_some o
    go None = refl
    go (Some bytes) = refl

next_digit : (odd : Bool) (d : ℕ) (o : Option (List ℕ)) → why_digits (waiting odd (consed (Some d) o)) ≡ why_digits (waiting (not odd) o)
next_digit true d None = refl
next_digit true d (Some ds) = rw (two_digits 0 d ds)
next_digit false d None = refl
next_digit false d (Some ds) = rw (other_digit d ds)

no_digit : (odd : Bool) → why_digits (waiting odd None) ≡ Some NoDigit
no_digit true = refl
no_digit false = refl

module _ (t : List ℕ) (odd : Bool) (i : ℕ) (w : Option Fault) (e : why_from odd (drop i t) ≡ w) where
  module _ (h : i < length t) where
    pub image_space : get_or t i 0 ≡ space → why_from odd (drop (i + 1) t) ≡ w
    unfolding why_from unspaced
    image_space q = sym (sym e ∙ rw (drop-cons t i 0 h, eq-eqb _ _ q, add-one))

    module _ (f : get_or t i 0 ≡ space → ⊥) where
      read : digits (unspaced (drop i t)) ≡ consed (digit_of (get_or t i 0)) (digits (unspaced (drop (i + 1) t)))
      unfolding unspaced digits
      read = rw (drop-cons t i 0 h, ne_eqb _ _ f, add-one)

      -- b is whether the code found no digit
      module _ (b : Bool) (o : Option ℕ) (p : is_some o ≡ not b) (q : o ≡ digit_of (get_or t i 0)) where
        pub image_bad : b ≡ true → Some NoDigit ≡ w
        unfolding why_from
        image_bad n = go o q (p ∙ ap not n)
          where
            go : (o : Option ℕ) → o ≡ digit_of (get_or t i 0) → is_some o ≡ false → Some NoDigit ≡ w
            go None k m = sym (sym e ∙ rw (read, ← k) (no_digit odd))
            go (Some d) k m = cc

        pub image_digit : b ≡ false → why_from (not odd) (drop (i + 1) t) ≡ w
        unfolding why_from
        image_digit n = go o q (p ∙ ap not n)
          where
            go : (o : Option ℕ) → o ≡ digit_of (get_or t i 0) → is_some o ≡ true → why_digits (waiting (not odd) (digits (unspaced (drop (i + 1) t)))) ≡ w
            go None k m = cc
            go (Some d) k m = sym (sym e ∙ rw (read, ← k) (next_digit odd d (digits (unspaced (drop (i + 1) t)))))

  module _ (l : length t ≤ i) where
    pub image_odd : odd ≡ true → Some OddDigits ≡ w
    unfolding why_from unspaced digits paired
    image_odd q = sym (sym e ∙ rw (drop_of_length-le t l, q))

    pub image_even : odd ≡ false → None ≡ w
    unfolding why_from unspaced digits paired
    image_even q = sym (sym e ∙ rw (drop_of_length-le t l, q))
