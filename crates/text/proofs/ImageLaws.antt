-- Laws of an image's text. Of what is read so far, `done` are the whole bytes, and high is the digit that waits for the second one of its byte.
use Rattle.std.specs.Prelude.{Option, Some, None}
use Rattle.std.specs.Option.{option_map}
use Rattle.std.proofs.lemmas.List.{take_rest}
use mathlib.Core.Path.{◌≡◌, refl, sym, ◌∙◌}
use mathlib.Core.List.{List, [], ◌∷◌, ◌++◌, append_assoc, append-nil}
use Prim.Native.Nat.{ℕ, ◌+◌, ◌-◌, ◌*◌, ◌<◌, ◌≤◌}
use native.Mathlib.Nat.{zero-add}
use native.Mathlib.Numerals.{add-one}
use native.Mathlib.Omega.{arith}
use lib.ListN.{length, get_or, take, drop, set, drop_of_length-le, length-append}
use lib.Seq.{sets, drop-cons}
use borrow.Author.Tests.{eq-eqb, ne_eqb}
use Rattle.rules.specs.Text.{space, digit_of, digits, consed, byte_of, paired, paired_or}
use Rattle.text.specs.Pieces.{unspaced, image_at}
use Rattle.text.proofs.Stores.{sets_append}
use Rattle.text.proofs.NumberLaws.{digit_below}

abbrev with_high : Option ℕ → Option (List ℕ) → Option (List ℕ)
with_high None ds = ds
with_high (Some high) ds = consed (Some high) ds

abbrev prepended : List ℕ → Option (List ℕ) → Option (List ℕ)
prepended done None = None
prepended done (Some bytes) = Some (done ++ bytes)

-- the whole image, from what is done, what waits and what is left of the text
unfoldable pub image_from : List ℕ → Option ℕ → List ℕ → Option (List ℕ)
image_from done high bs = prepended done (paired_or (with_high high (digits (unspaced bs))))

image_start : (bs : List ℕ) → image_from [] None bs ≡ image_at bs
unfolding image_from image_at
image_start bs = go (paired_or (digits (unspaced bs)))
  where
    go : (o : Option (List ℕ)) → prepended [] o ≡ o
    go None = refl
    go (Some bytes) = refl

module _ (t done : List ℕ) (i : ℕ) (w : Option (List ℕ)) where
  module _ (h : i < length t) where
    image_space : (high : Option ℕ) → image_from done high (drop i t) ≡ w → get_or t i 0 ≡ space → image_from done high (drop (i + 1) t) ≡ w
    unfolding image_from unspaced
    image_space high e q =
        let z : unspaced (drop i t) ≡ unspaced (drop (i + 1) t) = rw (drop-cons t i 0 h, eq-eqb _ _ q, add-one) in
        rw (← z) e

    module _ (f : get_or t i 0 ≡ space → ⊥) where
      read : digits (unspaced (drop i t)) ≡ consed (digit_of (get_or t i 0)) (digits (unspaced (drop (i + 1) t)))
      unfolding unspaced digits
      read = rw (drop-cons t i 0 h, ne_eqb _ _ f, add-one)

      image_bad : (high : Option ℕ) → image_from done high (drop i t) ≡ w → digit_of (get_or t i 0) ≡ None → w ≡ None
      unfolding image_from
      image_bad None e q = sym e ∙ rw (read, q)
      image_bad (Some high) e q = sym e ∙ rw (read, q)

      module _ (d : ℕ) (q : digit_of (get_or t i 0) ≡ Some d) where
        image_waits : image_from done None (drop i t) ≡ w → image_from done (Some d) (drop (i + 1) t) ≡ w
        unfolding image_from
        image_waits e = sym (sym e ∙ rw (read, q))

        image_byte : (high : ℕ) → image_from done (Some high) (drop i t) ≡ w → image_from (done ++ ((high * 16 + d) ∷ [])) None (drop (i + 1) t) ≡ w
        unfolding image_from paired
        image_byte high e = sym (sym e ∙ rw (read, q) (go (digits (unspaced (drop (i + 1) t)))))
          where
            there : (o : Option (List ℕ)) → prepended done (byte_of high d o) ≡ prepended (done ++ ((high * 16 + d) ∷ [])) o
            there None = refl
            there (Some bytes) = rw append_assoc

            go : (o : Option (List ℕ)) → prepended done (paired_or (consed (Some high) (consed (Some d) o))) ≡ prepended (done ++ ((high * 16 + d) ∷ [])) (paired_or o)
            go None = refl
            go (Some ds) = there (paired ds)

  module _ (l : length t ≤ i) where
    image_odd : (high : ℕ) → image_from done (Some high) (drop i t) ≡ w → w ≡ None
    unfolding image_from unspaced digits paired
    image_odd high e = sym e ∙ rw (drop_of_length-le t l)

    image_even : image_from done None (drop i t) ≡ w → w ≡ Some done
    unfolding image_from unspaced digits paired
    image_even e = sym e ∙ rw (drop_of_length-le t l, append-nil)

-- the text from a place on, as the code takes it
abbrev pub left : ℕ → List ℕ → List ℕ
left from s = take (length s - from) (drop from s)

-- what `read_image` answers of a text, of an array that was m and is o
pub record ReadAs (t m o : List ℕ) (r : Option ℕ) : Type 0 where
  pub size : r ≡ option_map length (image_at t)
  pub bytes : (bytes : List ℕ) → image_at t ≡ Some bytes → o ≡ sets m 0 bytes

pub read_left : (from : ℕ) (s m o : List ℕ) (r : Option ℕ) → ReadAs (left from s) m o r → ReadAs (drop from s) m o r
read_left from s m o r w = rw (← take_rest s from) w

refused : (t m o : List ℕ) → image_at t ≡ None → ReadAs t m o None
refused t m o e = record { size = rw e; bytes = λ bytes f. cc }

-- a digit that waits takes a place of the text
abbrev pub waiting : Option ℕ → ℕ
waiting None = 0
waiting (Some high) = 1

-- the state of `read_image` before its turn i, of an array that was m: its first n bytes are those that are done
pub record Reading (t m o : List ℕ) (n : ℕ) (high : Option ℕ) (i : ℕ) : Type 0 where
  pub done : List ℕ
  pub count : n ≡ length done
  pub stored : o ≡ sets m 0 done
  pub few : 2 * n + waiting high ≤ i
  pub digit : (d : ℕ) → high ≡ Some d → d < 16
  pub whole : image_from done high (drop i t) ≡ image_at t

pub reading_start : (t m : List ℕ) → Reading t m m 0 None 0
reading_start t m = record { done = []; count = refl; stored = refl; few = omega arith; digit = λ d e. cc; whole = image_start t }

module _ (t m o : List ℕ) (n i : ℕ) where
  module _ (high : Option ℕ) (r : Reading t m o n high i) (h : i < length t) where
    pub reading_space : get_or t i 0 ≡ space → Reading t m o n high (i + 1)
    reading_space q = record { done = r.done; count = r.count; stored = r.stored; few = omega (arith, r.few); digit = r.digit; whole = image_space t _ i _ h high r.whole q }

    pub reading_bad : (get_or t i 0 ≡ space → ⊥) → digit_of (get_or t i 0) ≡ None → ReadAs t m o None
    reading_bad f q = refused t m o (image_bad t _ i _ h f high r.whole q)

  module _ (d : ℕ) (h : i < length t) (f : get_or t i 0 ≡ space → ⊥) (q : digit_of (get_or t i 0) ≡ Some d) where
    pub reading_waits : Reading t m o n None i → Reading t m o n (Some d) (i + 1)
    reading_waits r = record {
      done = r.done;
      count = r.count;
      stored = r.stored;
      few = omega (arith, r.few);
      digit = λ e g. let k : d ≡ e = cc in omega (arith, digit_below _ d q);
      whole = image_waits t _ i _ h f d q r.whole;
    }

    pub reading_byte : (high : ℕ) → Reading t m o n (Some high) i → Reading t m (set o n (high * 16 + d)) (n + 1) None (i + 1)
    reading_byte high r = record {
      done = r.done ++ ((high * 16 + d) ∷ []);
      count = rw (r.count, length-append);
      stored = rw (r.count, r.stored) (simp zero-add at (sets_append r.done ((high * 16 + d) ∷ []) m 0));
      few = omega (arith, r.few);
      digit = λ e g. cc;
      whole = image_byte t _ i _ h f d q high r.whole;
    }

    pub byte_fits : (high : ℕ) → Reading t m o n (Some high) i → high * 16 + d < 256
    byte_fits high r = omega (arith, r.digit high refl, digit_below _ d q)

  module _ (l : length t ≤ i) where
    pub reading_odd : (high : ℕ) → Reading t m o n (Some high) i → ReadAs t m o None
    reading_odd high r = refused t m o (image_odd t _ i _ l high r.whole)

    pub reading_even : Reading t m o n None i → ReadAs t m o (Some n)
    reading_even r =
        let e : image_at t ≡ Some r.done = image_even t _ i _ l r.whole in
        record { size = rw (e, r.count); bytes = λ bytes b. let q : r.done ≡ bytes = cc in rw (← q) r.stored }
