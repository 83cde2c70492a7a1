-- Sentences of the paper that no definition says by itself: a range that passes 2^64 is not valid, and a ring of n entries holds n-1.
use Rattle.std.specs.Prelude.{if◌then◌else◌}
use mathlib.Core.Path.{◌≡◌, refl, sym, ◌∙◌}
use mathlib.Core.Bool.{Bool, true, false, not, cond}
use mathlib.Core.List.{List, [], ◌∷◌}
use mathlib.Core.Logic.{◌⊎◌, inl, inr, ⊎_elim}
use Prim.Native.Nat.{ℕ, zero, suc, ◌+◌, ◌-◌, ◌*◌, ◌/◌, ◌%◌, ◌^◌, ◌<◌, ◌≤◌}
use native.Mathlib.Nat.{mod-eq_of_lt, mod_self, add-mod_right}
use native.Mathlib.Omega.{arith}
use lib.Dec.{leb, ltb, eqb}
use lib.ListN.{length, get_or, length-take}
use lib.Seq.{get_or-take}
use borrow.Author.Tests.{leb-true, leb-false, lt-leb, ltb-true, ltb-false, lt-ltb, le-ltb, eq-eqb, ne_eqb}
use Rattle.rules.specs.Types.{Extent, Extents, Ring, Tables}
use Rattle.rules.specs.Limits.{guest_limit, extent_limit, real_pages, host_pages}
use Rattle.rules.specs.Kept.{blank_extent, guest_at, extent_at, present, extents_of, with_tail}
use Rattle.rules.specs.Real.{high, holds, reach, valid}
use Rattle.rules.specs.Scan.{all_below}
use Rattle.rules.specs.Image.{extent_right, ascend}
use Rattle.rules.specs.Queues.{next_tail, has_room, forward}
use Rattle.rules.specs.Tables.{list_right, extent_blank, extents_keep, guest_keeps, guest_blank, keep_rules}
use Rattle.rules.proofs.Scan.{all_at, all_of}
use Rattle.rules.proofs.Tests.{and_left, and_right}

-- "a range that passes 2^64 is not" valid

-- what is reached lies no further than the ends of the extents
reached : (xs : List Extent) (a most : ℕ) → a ≤ most → ((i : ℕ) → i < length xs → high (get_or xs i blank_extent) ≤ most) → reach xs a ≤ most
unfolding reach
reached [] a most l h = l
reached (x ∷ xs) a most l h = reached xs (cond (holds x a) (high x) a) most (go (holds x a)) (λ i k. h (suc i) (omega arith))
  where
    go : (t : Bool) → cond t (high x) a ≤ most
    go true = h 0 (omega arith)
    go false = l

-- an extent of the image ends at 2^41 at the latest
ends_early : (x : Extent) → extent_right x ≡ true → high x ≤ 2 ^ 41
unfolding extent_right
ends_early x e =
    omega (arith, leb-true (x.real + x.count) real_pages (and_left _ (leb (x.host + x.count) host_pages) (and_right (leb 1 x.count) _ e)))

-- of extents that keep the image's rule on each of them
abbrev pub extents_right : Extents → Bool
extents_right extents = all_below extents.extents (λ i. extent_right (extent_at extents i))

pub passing_invalid : (extents : Extents) → extents_right extents ≡ true → (base n : ℕ) → base < 2 ^ 64 → 2 ^ 64 < base + n → valid (present extents) base n ≡ false
unfolding valid
passing_invalid extents e base n b p =
    lt-leb (base + n) (reach (present extents) base) (omega (arith, reached (present extents) base (2 ^ 64) (omega arith) below))
  where
    below : (i : ℕ) → i < length (present extents) → high (get_or (present extents) i blank_extent) ≤ 2 ^ 64
    below i l =
        let k : i < extents.extents = omega (arith, length-take extents.extents extents.extent) in
        rw (get_or-take extents.extents extents.extent i blank_extent k) (omega (arith, ends_early (extent_at extents i) (all_at (λ j. extent_right (extent_at extents j)) extents.extents i e k)))

-- and so of every guest, in tables that hold
there : (limit count : ℕ) (right blank : ℕ → Bool) → list_right limit count right blank ≡ true → (i : ℕ) → i < count → right i ≡ true
unfolding list_right
there limit count right blank e i h =
    let l : count ≤ limit = leb-true count limit (and_left (leb count limit) _ e) in
    rw (lt-ltb i count h) at (all_at (λ j. if ltb j count then right j else blank j) limit i (and_right (leb count limit) _ e) (omega arith))

extents_right_lem : (extents : Extents) → extents_keep extents ≡ true → extents_right extents ≡ true
unfolding extents_keep
extents_right_lem extents e =
    all_of (λ i. extent_right (extent_at extents i)) extents.extents
    (there extent_limit extents.extents (λ i. extent_right (extent_at extents i)) (λ i. extent_blank (extent_at extents i))
    (and_left _ (ascend extents) (and_right (leb 1 extents.extents) _ e)))

pub passing_invalid_for : (tables : Tables) → keep_rules tables ≡ true → (g : ℕ) → g < tables.guests
    → (base n : ℕ) → base < 2 ^ 64 → 2 ^ 64 < base + n → valid (extents_of tables g) base n ≡ false
unfolding keep_rules guest_keeps
passing_invalid_for tables e g h base n b p =
    let kept = there guest_limit tables.guests (λ k. guest_keeps (guest_at tables k)) (λ k. guest_blank (guest_at tables k)) (and_left _ _ e) g h in
    passing_invalid (guest_at tables g).extents (extents_right_lem (guest_at tables g).extents (and_left (extents_keep (guest_at tables g).extents) _ kept)) base n b p

-- "A ring is full when tail + 64, modulo its size, is head: it holds n-1."

-- the number of entries in a ring: those from its head forward to its tail
abbrev pub entries_in : Ring → ℕ
entries_in ring = forward ring ring.tail / 64

-- a ring with one entry more
abbrev pub with_entry : Ring → Ring
with_entry ring = with_tail ring (next_tail ring)

-- a ring of n entries, as tables hold it: "head and tail multiples of 64 below the ring's size"
pub record RingOf (n : ℕ) (ring : Ring) : Type 0 where
  pub size : ring.size ≡ 64 * n
  pub head : ring.head % 64 ≡ 0
  pub head_below : ring.head < ring.size
  pub tail : ring.tail % 64 ≡ 0
  pub tail_below : ring.tail < ring.size

module _ (n : ℕ) (ring : Ring) (r : RingOf n ring) where
  -- how far the tail lies forward from the head: at or behind it, or before it, where the ring begins anew
  distance : ((ring.head ≤ ring.tail) × (forward ring ring.tail ≡ ring.tail - ring.head))
      ⊎ ((ring.tail < ring.head) × (forward ring ring.tail ≡ ring.tail + ring.size - ring.head))
  distance = go (leb ring.head ring.tail) refl
    where
      level : ring.head ≤ ring.tail → forward ring ring.tail ≡ ring.tail - ring.head
      level h =
          let q : ring.tail + ring.size - ring.head ≡ (ring.tail - ring.head) + ring.size = omega arith in
          rw (q, add-mod_right (ring.tail - ring.head) ring.size) (mod-eq_of_lt (omega arith))

      go : (t : Bool) → leb ring.head ring.tail ≡ t
          → ((ring.head ≤ ring.tail) × (forward ring ring.tail ≡ ring.tail - ring.head))
          ⊎ ((ring.tail < ring.head) × (forward ring ring.tail ≡ ring.tail + ring.size - ring.head))
      go true e = inl (leb-true _ _ e, level (leb-true _ _ e))
      go false e = let h : ring.tail < ring.head = leb-false _ _ e in inr (h, mod-eq_of_lt (omega arith))

  -- the next tail: 64 on, or at the start
  next : ((ring.tail + 64 < ring.size) × (next_tail ring ≡ ring.tail + 64)) ⊎ ((ring.tail + 64 ≡ ring.size) × (next_tail ring ≡ 0))
  next = go (ltb (ring.tail + 64) ring.size) refl
    where
      go : (t : Bool) → ltb (ring.tail + 64) ring.size ≡ t
          → ((ring.tail + 64 < ring.size) × (next_tail ring ≡ ring.tail + 64)) ⊎ ((ring.tail + 64 ≡ ring.size) × (next_tail ring ≡ 0))
      go true e = inl (ltb-true _ _ e, mod-eq_of_lt (ltb-true _ _ e))
      go false e =
          let q : ring.tail + 64 ≡ ring.size = omega (arith, ltb-false (ring.tail + 64) ring.size e) in
          inr (q, rw q (mod_self ring.size))

  -- it never holds more than n-1 ..
  pub holds_at_most : entries_in ring ≤ n - 1
  holds_at_most = ⊎_elim (λ d. omega arith) (λ d. omega arith) distance

  -- .. and has room exactly while it holds fewer
  pub room_below : has_room ring ≡ ltb (entries_in ring) (n - 1)
  unfolding has_room
  room_below = go (ltb (entries_in ring) (n - 1)) refl
    where
      go : (t : Bool) → ltb (entries_in ring) (n - 1) ≡ t → not (eqb (next_tail ring) ring.head) ≡ t
      go true e =
          let l : entries_in ring < n - 1 = ltb-true _ _ e in
          rw
          (ne_eqb (next_tail ring) ring.head
          (λ q.
          ⊎_elim
          (λ d. ⊎_elim (λ x. omega arith) (λ x. omega arith) next)
          (λ d. ⊎_elim (λ x. omega arith) (λ x. omega arith) next)
          distance))
      go false e =
          let l : n - 1 ≤ entries_in ring = ltb-false _ _ e in
          rw
          (eq-eqb (next_tail ring) ring.head
          (⊎_elim
          (λ d. ⊎_elim (λ x. omega arith) (λ x. omega arith) next)
          (λ d. ⊎_elim (λ x. omega arith) (λ x. omega arith) next)
          distance))

  has_room_lem : entries_in ring < n - 1 → has_room ring ≡ true
  has_room_lem h = room_below ∙ lt-ltb (entries_in ring) (n - 1) h

  no_room : n - 1 ≤ entries_in ring → has_room ring ≡ false
  no_room h = room_below ∙ le-ltb (entries_in ring) (n - 1) h

  -- with one entry more it is a ring again
  pub with_entry_lem : RingOf n (with_entry ring)
  with_entry_lem = record {
    size = r.size;
    head = r.head;
    head_below = r.head_below;
    tail = ⊎_elim (λ x. omega arith) (λ x. omega arith) next;
    tail_below = ⊎_elim (λ x. omega arith) (λ x. omega arith) next;
  }

-- and holds one more
pub one_more : (n : ℕ) (ring : Ring) → RingOf n ring → has_room ring ≡ true → entries_in (with_entry ring) ≡ entries_in ring + 1
one_more n ring r room =
    let l : entries_in ring < n - 1 = ltb-true _ _ (sym (room_below n ring r) ∙ room) in
    ⊎_elim
    (λ d.
    ⊎_elim
    (λ x. ⊎_elim (λ y. omega arith) (λ y. omega arith) after)
    (λ x. ⊎_elim (λ y. omega arith) (λ y. omega arith) after)
    (next n ring r))
    (λ d.
    ⊎_elim
    (λ x. ⊎_elim (λ y. omega arith) (λ y. omega arith) after)
    (λ x. ⊎_elim (λ y. omega arith) (λ y. omega arith) after)
    (next n ring r))
    (distance n ring r)
  where
    after : ((ring.head ≤ next_tail ring) × (forward ring (next_tail ring) ≡ next_tail ring - ring.head))
        ⊎ ((next_tail ring < ring.head) × (forward ring (next_tail ring) ≡ next_tail ring + ring.size - ring.head))
    after = distance n (with_entry ring) (with_entry_lem n ring r)

-- an empty ring, as 0x14 leaves it, and a ring with k entries more
abbrev pub empty_ring : ℕ → ℕ → Ring
empty_ring base n = record { base = base; size = 64 * n; head = 0; tail = 0 }

abbrev pub with_entries : ℕ → Ring → Ring
with_entries zero ring = ring
with_entries (suc k) ring = with_entry (with_entries k ring)

module _ (base n : ℕ) (some : 1 ≤ n) where
  abbrev filled : ℕ → Ring
  filled k = with_entries k (empty_ring base n)

  filling : (k : ℕ) → k ≤ n - 1 → RingOf n (filled k) × (entries_in (filled k) ≡ k)
  filling zero h =
      let q : 0 + 64 * n - 0 ≡ 64 * n = omega arith in
      (record { size = refl; head = refl; head_below = omega arith; tail = refl; tail_below = omega arith }, rw (q, mod_self (64 * n)))
  filling (suc k) h =
      let f = filling k (omega arith) in
      (with_entry_lem n (filled k) f.0, omega (arith, one_more n (filled k) f.0 (has_room_lem n (filled k) f.0 (omega arith))))

  -- n-1 entries can be put into it, one after another ..
  pub takes_fewer : (k : ℕ) → k < n - 1 → has_room (with_entries k (empty_ring base n)) ≡ true
  takes_fewer k h = let f = filling k (omega arith) in has_room_lem n (filled k) f.0 (omega arith)

  -- .. and then there is no room
  pub then_full : has_room (with_entries (n - 1) (empty_ring base n)) ≡ false
  then_full = let f = filling (n - 1) (omega arith) in no_room n (filled (n - 1)) f.0 (omega arith)
