-- Laws of the rows of bits: how long each is, and how putting a row goes part by part.
use Rattle.std.specs.Prelude.{if◌then◌else◌}
use mathlib.Core.Bool.{Bool, true, false}
use mathlib.Core.Path.{◌≡◌, refl, sym, ap, ◌∙◌}
use mathlib.Core.List.{List, ◌++◌}
use Prim.Native.Nat.{ℕ, zero, suc, ◌+◌, ◌*◌, ◌≤◌}
use mir.Val.{bool_byte}
use native.Mathlib.Nat.{add-zero, add-suc}
use native.Mathlib.Numerals.{add-one}
use native.Mathlib.Omega.{arith}
use lib.ListN.{length, length-append}
use Rattle.rules.specs.declared.Extent.{Extent}
use Rattle.rules.specs.declared.Source.{Source}
use Rattle.rules.specs.declared.Guest.{Guest}
use Rattle.rules.specs.declared.Tables.{Tables}
use Rattle.rules.specs.Bits.{bits_of}
use Rattle.rules.specs.Kept.{guest_at, extent_at, source_at}
use Rattle.rules.specs.Scan.{each_below}
use Rattle.rules.specs.Widths.{header_bits, counts_bits, extent_bits, source_bits, devhandle_width, devino_width, cookie_support_width, edition_width, guests_width}
use Rattle.rules.specs.Writing.{extent_row, source_row, counts_row, guest_row, header_row, image_row}
use Rattle.bits.specs.Put.{put_bits}
use Rattle.bits.proofs.PutLaws.{bits_length, put_append, put_length}

-- three fields in a row, as an extent, a source and a guest's counts have
module _ (a b c x y z : ℕ) where
  abbrev three : List ℕ
  three = bits_of a x ++ (bits_of b y ++ bits_of c z)

  three_length : length three ≡ a + b + c
  three_length = simp (length-append, bits_length) (omega arith)

  pub put_three : (s t u v : List ℕ) (at : ℕ) → t ≡ put_bits s at (bits_of a x) → u ≡ put_bits t (at + a) (bits_of b y) → v ≡ put_bits u (at + (a + b)) (bits_of c z) → v ≡ put_bits s at three
  put_three s t u v at p q r =
      let e : at + (a + b) ≡ at + a + b = omega arith in
      rw (r, q, p, e, put_append, put_append, bits_length a x, bits_length b y)

pub extent_length : (x : Extent) → length (extent_row x) ≡ extent_bits
unfolding extent_row
extent_length x = three_length _ _ _ _ _ _

pub source_length : (s : Source) → length (source_row s) ≡ source_bits
unfolding source_row
source_length s = three_length _ _ _ _ _ _

pub counts_length : (guest : Guest) → length (counts_row guest) ≡ counts_bits
unfolding counts_row
counts_length guest = three_length _ _ _ _ _ _

pub header_length : (tables : Tables) → length (header_row tables) ≡ header_bits
unfolding header_row
header_length tables = simp (length-append, bits_length)

pub put_same_length : (s t : List ℕ) (at : ℕ) (l : List ℕ) → t ≡ put_bits s at l → length t ≡ length s
put_same_length s t at l e = ap length e ∙ put_length s at l

-- a source's third field is 1 or 0
bit_of : (t : Bool) → bool_byte t ≡ (if t then 1 else 0)
bit_of true = refl
bit_of false = refl

pub source_put : (x : Source) (s t u v : List ℕ) (at w : ℕ) → t ≡ put_bits s at (bits_of devhandle_width x.devhandle)
    → u ≡ put_bits t (at + devhandle_width) (bits_of devino_width x.devino) → w ≡ bool_byte x.cookies
    → v ≡ put_bits u (at + (devhandle_width + devino_width)) (bits_of cookie_support_width w) → v ≡ put_bits s at (source_row x)
unfolding source_row
source_put x s t u v at w p q e r = rw (sym (e ∙ bit_of x.cookies)) (put_three _ _ _ _ _ _ s t u v at p q r)

-- rows one behind the other
pub each_length : (f : ℕ → List ℕ) (bits : ℕ) → ((i : ℕ) → length (f i) ≡ bits) → (k : ℕ) → length (each_below k f) ≡ bits * k
unfolding each_below
each_length f bits e zero = omega arith
each_length f bits e (suc k) = rw (length-append, each_length f bits e k, e k) (omega arith)

pub each_next : (f : ℕ → List ℕ) (k : ℕ) → each_below (k + 1) f ≡ each_below k f ++ f k
unfolding each_below
each_next f k = rw add-one

pub each_longer : (f : ℕ → List ℕ) (j k : ℕ) → length (each_below j f) ≤ length (each_below (j + k) f)
unfolding each_below
each_longer f j zero = rw add-zero (omega arith)
each_longer f j (suc k) = rw (add-suc, length-append) (omega (arith, each_longer f j k))

pub each_next_length : (f : ℕ → List ℕ) (k : ℕ) → length (each_below (k + 1) f) ≡ length (each_below k f) + length (f k)
each_next_length f k = rw (each_next f k, length-append)

-- a guest
abbrev extents_part : Guest → List ℕ
extents_part guest = each_below guest.extents.extents (λ i. extent_row (extent_at guest.extents i))

abbrev sources_part : Guest → List ℕ
sources_part guest = each_below guest.plant.sources (λ i. source_row (source_at guest.plant i))

extents_length : (guest : Guest) → length (extents_part guest) ≡ extent_bits * guest.extents.extents
extents_length guest = each_length _ extent_bits (λ i. extent_length (extent_at guest.extents i)) _

sources_length : (guest : Guest) → length (sources_part guest) ≡ source_bits * guest.plant.sources
sources_length guest = each_length _ source_bits (λ i. source_length (source_at guest.plant i)) _

pub guest_length : (guest : Guest) → length (guest_row guest) ≡ counts_bits + extent_bits * guest.extents.extents + source_bits * guest.plant.sources
unfolding guest_row
guest_length guest = rw (length-append, length-append, counts_length, extents_length guest, sources_length guest) (omega arith)

pub guest_put : (guest : Guest) (s t u v : List ℕ) (at : ℕ) → t ≡ put_bits s at (counts_row guest) → u ≡ put_bits t (at + counts_bits) (extents_part guest)
    → v ≡ put_bits u (at + counts_bits + extent_bits * guest.extents.extents) (sources_part guest) → v ≡ put_bits s at (guest_row guest)
unfolding guest_row
guest_put guest s t u v at p q r = rw (r, q, p, put_append, put_append, counts_length guest, extents_length guest)

-- the header, and the image
pub header_put : (tables : Tables) (s t u : List ℕ) → t ≡ put_bits s 0 (bits_of edition_width 1) → u ≡ put_bits t edition_width (bits_of guests_width tables.guests) → u ≡ put_bits s 0 (header_row tables)
unfolding header_row
header_put tables s t u p q = rw (q, p, put_append, bits_length)

pub image_length : (tables : Tables) → length (image_row tables) ≡ header_bits + length (each_below tables.guests (λ g. guest_row (guest_at tables g)))
unfolding image_row
image_length tables = rw (length-append, header_length)

-- putting rows one behind the other: none so far, one more, and all
module _ (s : List ℕ) (at : ℕ) (f : ℕ → List ℕ) where
  pub each_put_start : s ≡ put_bits s at (each_below 0 f)
  unfolding put_bits each_below
  each_put_start = refl

  module _ (t : List ℕ) (i : ℕ) (e : t ≡ put_bits s at (each_below i f)) where
    pub each_put_next : (u : List ℕ) (p : ℕ) → p ≡ at + length (each_below i f) → u ≡ put_bits t p (f i) → u ≡ put_bits s at (each_below (i + 1) f)
    each_put_next u p q r = rw (r, e, q, each_next f i, put_append)

    -- where each row has as many bits, the place is a product
    pub each_put_same : (bits : ℕ) → ((j : ℕ) → length (f j) ≡ bits) → (u : List ℕ) → u ≡ put_bits t (at + bits * i) (f i) → u ≡ put_bits s at (each_below (i + 1) f)
    each_put_same bits n u r = each_put_next u (at + bits * i) (ap (λ (x : ℕ). at + x) (sym (each_length f bits n i))) r

    pub each_put_end : (k : ℕ) → i ≤ k → k ≤ i → t ≡ put_bits s at (each_below k f)
    each_put_end k l m =
        let q : i ≡ k = omega arith in
        rw q at e
