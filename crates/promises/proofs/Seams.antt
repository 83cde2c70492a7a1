-- Promises of ranges over extents that touch: a range is valid where every one of its bytes lies in some extent, and what does not
-- leave its page, as a word or a queue entry, does not leave its extent.
use Rattle.std.proofs.Common.{Option, Some, None}
use mathlib.Core.Path.{◌≡◌, refl, sym, ap, ◌∙◌}
use mathlib.Core.Bool.{Bool, true, false, cond, true≢false, false≢true}
use mathlib.Core.List.{List, [], ◌∷◌}
use Prim.Native.Nat.{ℕ, zero, suc, ◌+◌, ◌*◌, ◌/◌, ◌%◌, ◌≤◌, ◌<◌}
use native.Mathlib.Nat.{add-zero, div-add-mod', mul_comm, mul_assoc}
use native.Mathlib.Omega.{arith}
use lib.Dec.{eqb, leb}
use lib.ListN.{length, get_or, length-take, get_or-eq_default}
use lib.Seq.{get_or-take}
use borrow.Author.Tests.{eqb-true, leb-true, leb-false}
use Rattle.rules.specs.declared.Extent.{Extent}
use Rattle.rules.specs.declared.Extents.{Extents}
use Rattle.rules.specs.declared.Host.{Host}
use Rattle.rules.specs.declared.QueueRecord.{QueueRecord}
use Rattle.rules.specs.declared.Refusal.{Refusal}
use Rattle.rules.specs.declared.Refusal.TheVariants.{EINVAL, EBADALIGN, ENORADDR}
use Rattle.rules.specs.declared.Ring.{Ring}
use Rattle.rules.specs.declared.Tables.{Tables}
use Rattle.rules.specs.Limits.{page_size}
use Rattle.rules.specs.Kept.{blank_extent, guest_at, extent_at, present, extents_of}
use Rattle.rules.specs.Real.{holds, host_offset, located, valid}
use Rattle.rules.specs.Queues.{new_ring}
use Rattle.rules.specs.Rulings.{Ruling, granted, accepts, ◌or_refuse◌then◌}
use Rattle.rules.specs.Scan.{power_of_two◌from◌to◌}
use Rattle.rules.specs.Tables.{keep_rules, record_right, ring_right}
use Rattle.rules.proofs.Tests.{and_left, and_right}
use Rattle.memory.specs.Cells.{somewhere}
use Rattle.memory.specs.Ready.{Apart}
use Rattle.memory.proofs.Checked.{apart_present}
use Rattle.memory.proofs.Holds.{holds_low, holds_high, holds_made}
use Rattle.memory.proofs.Places.{Lies, here, later, lies, nowhere}
use Rattle.memory.proofs.Reached.{valid_at, valid_part, valid_of}
use Rattle.records.proofs.SoundLaws.{plant_records, ring_sound}
use Rattle.tables.proofs.SoundTables.{extents_keep_lem, extents_ascend, plant_keeps_lem}
use Rattle.promises.specs.Words.{InSome, OneRun}
use Rattle.promises.specs.Promises.{EachByte, WordsNeverCross, EntriesNeverCross}

-- An address lies somewhere if some extent of the list has it, and only then.

record Has (es : List Extent) (a : ℕ) : Type 0 where
  place : ℕ
  there : place < length es
  has : holds (get_or es place blank_extent) a ≡ true

has_some : (es : List Extent) (a : ℕ) → somewhere (located es a) ≡ true → Has es a
unfolding located
has_some [] a e = absurd (false≢true e)
has_some (x ∷ xs) a e = go (has_some xs a) (holds x a) refl e
  where
    go : (somewhere (located xs a) ≡ true → Has xs a) → (t : Bool) → holds x a ≡ t → somewhere (cond t (Some (host_offset x (record { 0 = a }))) (located xs a)) ≡ true → Has (x ∷ xs) a
    go ih true p q = record { place = 0; there = omega arith; has = p }
    go ih false p q =
        let i = ih q in
        record { place = suc i.place; there = omega (arith, i.there); has = i.has }

some_has : (es : List Extent) (a i : ℕ) → i < length es → holds (get_or es i blank_extent) a ≡ true → somewhere (located es a) ≡ true
unfolding located
some_has [] a i l p = absurd (omega arith)
some_has (x ∷ xs) a zero l p = rw p
some_has (x ∷ xs) a (suc i) l p = go (holds x a) (some_has xs a i (omega arith) p)
  where
    go : (t : Bool) → somewhere (located xs a) ≡ true → somewhere (cond t (Some (host_offset x (record { 0 = a }))) (located xs a)) ≡ true
    go true ih = refl
    go false ih = ih

module _ (e : Extents) (a : ℕ) where
  in_some : somewhere (located (present e) a) ≡ true → InSome e a
  in_some s =
      let h = has_some (present e) a s in
      let l : h.place < e.extents = omega (arith, h.there, length-take e.extents e.extent) in
      record { place = h.place; there = l; has = rw (get_or-take e.extents e.extent h.place blank_extent l) at h.has }

  -- a place past those of the array is blank, and a blank extent has no address
  within_array : (i : ℕ) → holds (extent_at e i) a ≡ true → i < length e.extent
  within_array i h = go (leb (length e.extent) i) refl
    where
      go : (t : Bool) → leb (length e.extent) i ≡ t → i < length e.extent
      go true q =
          let b : holds blank_extent a ≡ true = rw (get_or-eq_default e.extent blank_extent (leb-true (length e.extent) i q)) at h in
          absurd (omega (arith, holds_high blank_extent a b))
      go false q = leb-false _ _ q

  some_in : InSome e a → somewhere (located (present e) a) ≡ true
  some_in i =
      some_has (present e) a i.place (omega (arith, i.there, within_array i.place i.has, length-take e.extents e.extent))
      (rw (get_or-take e.extents e.extent i.place blank_extent i.there) i.has)

pub each_byte : EachByte
each_byte = record {
  valid_lies = λ tables keep g there a n v k h. in_some (guest_at tables g).extents (a + k) (valid_at (extents_of tables g) a n k v h);
  lies_valid = λ tables keep g there a n f. valid_of (extents_of tables g) a n (apart tables keep g there) (λ k h. some_in (guest_at tables g).extents (a + k) (f k h));
}
  where
    apart : (tables : Tables) (keep : keep_rules tables ≡ true) (g : ℕ) → g < tables.guests → Apart (extents_of tables g)
    apart tables keep g there = apart_present (guest_at tables g).extents (extents_ascend _ (extents_keep_lem tables keep g there))

-- What does not leave its page does not leave its extent: extents are whole pages.

within_page : (es : List Extent) (a k : ℕ) (h : Host) → a % page_size + k < page_size → located es a ≡ Some h → located es (a + k) ≡ Some (record { 0 = h.0 + k })
unfolding located
within_page [] a k h l e = absurd (nowhere a h e)
within_page (x ∷ xs) a k h l e = go (within_page xs a k h l) (lies x xs a h e) (holds x (a + k)) refl
  where
    go : (located xs a ≡ Some h → located xs (a + k) ≡ Some (record { 0 = h.0 + k })) → Lies x xs a h → (t : Bool) → holds x (a + k) ≡ t
        → cond t (Some (host_offset x (record { 0 = a + k }))) (located xs (a + k)) ≡ Some (record { 0 = h.0 + k })
    go ih (here p q) true r =
        let g : (host_offset x (record { 0 = a })).0 ≡ h.0 = ap (λ (o : Host). o.0) q in
        let z : (host_offset x (record { 0 = a + k })).0 ≡ h.0 + k = omega (arith, holds_low x a p) in
        λ i. Some (record { 0 = z i })
    go ih (here p q) false r =
        absurd (true≢false (sym (holds_made x (a + k) (omega (arith, holds_low x a p)) (omega (arith, holds_high x a p))) ∙ r))
    go ih (later p q) true r =
        absurd (true≢false (sym (holds_made x a (omega (arith, holds_low x (a + k) r)) (omega (arith, holds_high x (a + k) r))) ∙ p))
    go ih (later p q) false r = ih q

-- a range within a page that is valid
one_page_lem : (es : List Extent) (a n : ℕ) → 0 < n → a % page_size + n ≤ page_size → valid es a n ≡ true → OneRun es a n
one_page_lem es a n some fits v = go (located es a) refl
  where
    go : (p : Option Host) → located es a ≡ p → OneRun es a n
    go None e =
        let s : somewhere (located es (a + 0)) ≡ true = valid_at es a n 0 v some in
        absurd (true≢false (sym (simp add-zero at s) ∙ ap somewhere e))
    go (Some h) e = record { host = h.0; bytes = λ k l. within_page es a k h (omega arith) e }

pub words_never_cross : WordsNeverCross
words_never_cross tables g a aligned v = one_page_lem (extents_of tables g) a 8 (omega arith) (omega arith) v

-- a ring's base is a multiple of its size, and so of 64
chain : {A : Type 0} (t : Bool) (r : Refusal) (x : Ruling A) → accepts (t or_refuse r then x) ≡ true → (t ≡ true) × (accepts x ≡ true)
chain true r x e = (refl, e)
chain false r x e = absurd (false≢true e)

based : (v : ℕ → ℕ → Bool) (base n : ℕ) → accepts (new_ring v base n) ≡ true → base % 64 ≡ 0
unfolding new_ring
based v base n e =
    let aligned : Bool = eqb (base % (64 * n)) 0 in
    let ranged : Ruling Ring = v base (64 * n) or_refuse ENORADDR then granted (record { base = base; size = 64 * n; head = 0; tail = 0 }) in
    let rest : accepts (aligned or_refuse EBADALIGN then ranged) ≡ true = (chain (power_of_two n from 2 to 256) EINVAL (aligned or_refuse EBADALIGN then ranged) e).1 in
    let m : base % (64 * n) ≡ 0 = eqb-true (base % (64 * n)) 0 (chain aligned EBADALIGN ranged rest).0 in
    let d : base / (64 * n) * (64 * n) + base % (64 * n) ≡ base = div-add-mod' base (64 * n) in
    let s : base / (64 * n) * (64 * n) ≡ 64 * (n * (base / (64 * n))) = mul_comm (base / (64 * n)) (64 * n) ∙ mul_assoc 64 n (base / (64 * n)) in
    omega arith

ring_based : (v : ℕ → ℕ → Bool) (ring : Ring) → ring_right v ring ≡ true → ring.base % 64 ≡ 0
unfolding ring_right
ring_based v ring e = based v ring.base (ring.size / 64) (and_right (eqb (ring.size % 64) 0) _ (and_left _ _ e))

pub entries_never_cross : EntriesNeverCross
entries_never_cross tables keep g there c q hc hq ring held i l =
    let right : record_right (valid (extents_of tables g)) (QueueRecord.Set ring) ≡ true = rw held at (plant_records _ _ (plant_keeps_lem tables keep g there) c q hc hq) in
    let s = ring_sound (valid (extents_of tables g)) ring right in
    one_page_lem (extents_of tables g) (ring.base + 64 * i) 64 (omega arith) (omega (arith, ring_based _ ring right))
    (valid_part (extents_of tables g) ring.base ring.size (64 * i) 64 s.within (omega (arith, s.whole)))
