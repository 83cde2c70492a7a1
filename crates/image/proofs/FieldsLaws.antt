-- The answers for the header and for the whole image: what is left to read comes to what the whole does.
use Rattle.std.proofs.Common.{Result, Ok, Err}
use Rattle.std.specs.Result.{IsErrAnd}
use mathlib.Core.Path.{◌≡◌, ◌∙◌}
use mathlib.Core.List.{List}
use Prim.Native.Nat.{ℕ, suc, ◌+◌, ◌-◌, ◌<◌, ◌≤◌}
use native.Mathlib.Omega.{arith}
use lib.ListN.{set, replicate}
use Rattle.rules.specs.declared.Guest.{Guest}
use Rattle.rules.specs.declared.ImageRefusal.{ImageRefusal}
use Rattle.rules.specs.declared.ImageRefusal.TheVariants.{HeaderOrCount}
use Rattle.rules.specs.Limits.{guest_limit}
use Rattle.rules.specs.Kept.{blank_guest}
use Rattle.rules.specs.Rulings.{refused, granted, ◌grants◌}
use Rattle.rules.specs.Widths.{edition_width, guests_width, header_bits}
use Rattle.rules.specs.Image.{Reading, ◌bits_at◌of◌from◌to◌else◌, read_guest, read_guests, behind, read_header, read_fields}
use Rattle.image.specs.declared.Read.{Read}
use Rattle.image.specs.Answers.{result_of, read_of}
use Rattle.image.proofs.CountLaws.{granted_by, refused_by, count_most}
use Rattle.image.proofs.GuestLaws.{grants_tells}

-- the header
abbrev pub edition_read : List ℕ → Reading ℕ
edition_read s = edition_width bits_at 0 of s from 1 to 1 else HeaderOrCount 0

abbrev pub guests_read : List ℕ → Reading ℕ
guests_read s = guests_width bits_at edition_width of s from 1 to guest_limit else HeaderOrCount 0

-- the loop over guests
abbrev pub Left : List ℕ → ℕ → ℕ → ℕ → List Guest → Type 0
Left s n i at l = read_guests s n header_bits 0 (replicate guest_limit blank_guest) ≡ read_guests s (n - i) at i l

pub left_start : (s : List ℕ) (n : ℕ) (l : List Guest) → l ≡ replicate guest_limit blank_guest → Left s n 0 header_bits l
left_start s n l e =
    let z : n - 0 ≡ n = omega arith in
    rw (z, e)

one_left : (s : List ℕ) (n i at : ℕ) (l : List Guest) → i < n
    → read_guests s (n - i) at i l ≡ (read_guest s i at grants λ g. read_guests s (n - (i + 1)) (behind at g) (i + 1) (set l i g))
unfolding read_guests
one_left s n i at l h =
    let z : n - i ≡ suc (n - (i + 1)) = omega arith in
    rw z

module _ (s : List ℕ) (n i at : ℕ) (l : List Guest) (w : Left s n i at l) (h : i < n) where
  pub left_next : (g : Guest) → Ok g ≡ result_of (read_guest s i at) → (q : ℕ) → q ≡ behind at g → Left s n (i + 1) q (set l i g)
  left_next g e q b = w ∙ one_left s n i at l h ∙ rw (granted_by (read_guest s i at) g e, b)

  left_refused : (why : ImageRefusal) → Err why ≡ result_of (read_guest s i at) → read_guests s n header_bits 0 (replicate guest_limit blank_guest) ≡ refused why
  left_refused why e = w ∙ one_left s n i at l h ∙ rw (refused_by (read_guest s i at) why e)

left_end : (s : List ℕ) (n i at : ℕ) (l : List Guest) → Left s n i at l → i ≤ n → n ≤ i
    → read_guests s n header_bits 0 (replicate guest_limit blank_guest) ≡ granted (record { guest = l; end = at })
unfolding read_guests
left_end s n i at l w u v =
    let z : n - i ≡ 0 = omega arith in
    w ∙ rw z

-- the whole image
module _ (s : List ℕ) where
  pub fields_header : (why : ImageRefusal) (r : Result Read ImageRefusal) → IsErrAnd r (λ x. x ≡ why) → Err why ≡ result_of (read_header s) → r ≡ result_of (read_fields s grants read_of)
  unfolding read_fields
  fields_header why (Err x) h e = rw (refused_by (read_header s) why e, h)
  fields_header why (Ok a) h e = absurd h

  module _ (n : ℕ) (e : Ok n ≡ result_of (read_header s)) where
    pub header_most : n ≤ guest_limit
    unfolding read_header
    header_most = count_most s edition_width guests_width 1 guest_limit _ n (grants_tells (edition_read s) _ n (granted_by (read_header s) n e)).1.1

    module _ (i at : ℕ) (l : List Guest) (w : Left s n i at l) where
      pub fields_refused : (why : ImageRefusal) (r : Result Read ImageRefusal) → IsErrAnd r (λ x. x ≡ why) → i < n → Err why ≡ result_of (read_guest s i at) → r ≡ result_of (read_fields s grants read_of)
      unfolding read_fields
      fields_refused why (Err x) q h t = rw (granted_by (read_header s) n e, left_refused s n i at l w h why t, q)
      fields_refused why (Ok a) q h t = absurd q

      pub fields_read : i ≤ n → n ≤ i → Ok (record { end = at; tables = record { guests = n; guest = l } }) ≡ result_of (read_fields s grants read_of)
      unfolding read_fields
      fields_read u v = rw (granted_by (read_header s) n e, left_end s n i at l w u v)
