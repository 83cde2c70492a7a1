-- The line at each return of the code, and the bytes of an image.
use Rattle.std.specs.Prelude.{if◌then◌else◌, Option, Some, None, unwrap_or}
use Rattle.std.specs.Option.{option_map}
use mathlib.Core.Bool.{Bool, true, false}
use mathlib.Core.Path.{◌≡◌, refl, ap, ◌∙◌}
use mathlib.Core.List.{List, []}
use Prim.Native.Nat.{ℕ, ◌+◌, ◌<◌, ◌≤◌}
use native.Mathlib.Nat.{zero-add}
use lib.Dec.{leb}
use lib.ListN.{length, get_or, take, drop}
use lib.Seq.{sets}
use borrow.Author.Tests.{leb-true, le-leb, lt-leb}
use Rattle.rules.specs.Text.{Line, bad, image, event, word_image, same, fields, image_or, event_or, line_of, pieces, parse}
use Rattle.rules.specs.declared.Event.{Event}
use Rattle.text.specs.declared.line.Line.{Line as Told}
use Rattle.text.specs.Pieces.{first_length, behind, image_at}
use Rattle.text.specs.Lines.{told, image_of}
use Rattle.text.proofs.EventLaws.{event_or_bad}
use Rattle.text.proofs.Same.{same_eq, text_five}
use Rattle.text.proofs.PieceLaws.{pieces_split, joined_behind}

-- an image that is right or not
pub image_no : (w : Option (List ℕ)) → None ≡ option_map length w → Told.Bad ≡ told (image_or w)
unfolding told
image_no None e = refl
image_no (Some bytes) e = cc

pub image_yes : (n : ℕ) (w : Option (List ℕ)) → Some n ≡ option_map length w → Told.Image ≡ told (image_or w)
unfolding told
image_yes n None e = cc
image_yes n (Some bytes) e = refl

-- a line, cut at the end of its first word
module _ (s : List ℕ) where
  pub parse_long : 2048 < length s → Told.Bad ≡ told (parse s)
  unfolding parse told
  parse_long h = rw (lt-leb (length s) 2048 h)

  module _ (h : length s ≤ 2048) (end : ℕ) (e : end ≡ 0 + first_length (drop 0 s)) where
    cut : parse s ≡ (if same (take end s) word_image then image_or (image_at (drop end s)) else event_or (take end s) (fields (behind (drop end s))))
    unfolding parse image_at
    cut =
        let k : end ≡ first_length s = e ∙ zero-add _ in
        rw (le-leb (length s) 2048 h, k, pieces_split s, joined_behind s)

    module _ (r : Told) where
      pub parse_image : length (take end s) ≡ 5 → get_or (take end s) 0 0 ≡ 105 → get_or (take end s) 1 0 ≡ 109 → get_or (take end s) 2 0 ≡ 97
          → get_or (take end s) 3 0 ≡ 103 → get_or (take end s) 4 0 ≡ 101 → r ≡ told (image_or (image_at (drop end s))) → r ≡ told (parse s)
      unfolding same
      parse_image l h₀ h₁ h₂ h₃ h₄ f =
          let q : same (take end s) word_image ≡ true = rw (text_five (take end s) l, h₀, h₁, h₂, h₃, h₄) in
          f ∙ rw (cut, q)

      pub parse_event :
          (length (take end s) ≡ 5 → get_or (take end s) 0 0 ≡ 105 → get_or (take end s) 1 0 ≡ 109 → get_or (take end s) 2 0 ≡ 97
          → get_or (take end s) 3 0 ≡ 103 → get_or (take end s) 4 0 ≡ 101 → ⊥)
          → r ≡ told (event_or (take end s) (fields (behind (drop end s)))) → r ≡ told (parse s)
      parse_event n f = f ∙ go (same (take end s) word_image) refl
        where
          go : (t : Bool) → same (take end s) word_image ≡ t → told (event_or (take end s) (fields (behind (drop end s)))) ≡ told (parse s)
          go true q = let g : take end s ≡ word_image = same_eq (take end s) word_image q in absurd (n (rw g) (rw g) (rw g) (rw g) (rw g) (rw g))
          go false q = rw (cut, q)

pub ruleset parsed = (parse_long, parse_image, parse_event)

-- an event is no image
event_no_image : (word : List ℕ) (o : Option (List ℕ)) → Told.Image ≡ told (event_or word o) → ⊥
unfolding told
event_no_image word None = λ e. cc
event_no_image word (Some ns) = event_or_bad (λ l. Told.Image ≡ told l → ⊥) (λ e. cc) (λ x e. cc) word ns

-- the bytes of a line that is no image's
module _ (s m : List ℕ) where
  pub bytes_bad : Told.Bad ≡ told (parse s) → (0 ≡ length (image_of (parse s))) × (m ≡ sets m 0 (image_of (parse s)))
  unfolding told image_of
  bytes_bad e = go (parse s) e
    where
      go : (l : Line) → Told.Bad ≡ told l → (0 ≡ length (image_of l)) × (m ≡ sets m 0 (image_of l))
      go bad e = (refl, refl)
      go (image bytes) e = cc
      go (event x) e = cc

  pub bytes_event : (y : Event) → Told.Event y ≡ told (parse s) → (0 ≡ length (image_of (parse s))) × (m ≡ sets m 0 (image_of (parse s)))
  unfolding told image_of
  bytes_event y e = go (parse s) e
    where
      go : (l : Line) → Told.Event y ≡ told l → (0 ≡ length (image_of l)) × (m ≡ sets m 0 (image_of l))
      go bad e = cc
      go (image bytes) e = cc
      go (event x) e = (refl, refl)

-- the bytes of an image's line
module _ (s : List ℕ) (p : Told.Image ≡ told (parse s)) where
  pub bytes_fit : length s ≤ 2048
  unfolding parse told
  bytes_fit = go (leb (length s) 2048) refl p
    where
      go : (u : Bool) → leb (length s) 2048 ≡ u → Told.Image ≡ told (if u then line_of (pieces [] s) else bad) → length s ≤ 2048
      go true e f = leb-true _ _ e
      go false e f = cc

  module _ (end : ℕ) (e : end ≡ 0 + first_length (drop 0 s)) where
    there : image_at (drop end s) ≡ Some (image_of (parse s))
    unfolding told image_of
    there = rw (cut s bytes_fit end e) (go (same (take end s) word_image) (image_at (drop end s)) (p ∙ ap told (cut s bytes_fit end e)))
      where
        go : (u : Bool) (w : Option (List ℕ)) → Told.Image ≡ told (if u then image_or w else event_or (take end s) (fields (behind (drop end s))))
            → w ≡ Some (image_of (if u then image_or w else event_or (take end s) (fields (behind (drop end s)))))
        go true None f = cc
        go true (Some bytes) f = refl
        go false w f = absurd (event_no_image (take end s) (fields (behind (drop end s))) f)

    pub bytes_read : (r : Option ℕ) (m o : List ℕ) → r ≡ option_map length (image_at (drop end s)) → ((bytes : List ℕ) → image_at (drop end s) ≡ Some bytes → o ≡ sets m 0 bytes)
        → (unwrap_or r 0 ≡ length (image_of (parse s))) × (o ≡ sets m 0 (image_of (parse s)))
    bytes_read r m o k g = (rw (k, there), g _ there)
