-- How many entries more a ring takes, and where they go: what the rule's remainders come to.
use mathlib.Core.Path.{◌≡◌, refl, sym, ap, ◌∙◌}
use mathlib.Core.Bool.{Bool, true, false}
use mathlib.Core.Logic.{◌⊎◌, inl, inr}
use Prim.Native.Nat.{ℕ, suc, ◌+◌, ◌-◌, ◌*◌, ◌/◌, ◌%◌, ◌≤◌, ◌<◌}
use native.Mathlib.Nat.{mod-eq_of_lt, add-mod_right, mod-add-mod}
use native.Mathlib.Omega.{arith}
use lib.Dec.{ltb}
use borrow.Author.Tests.{ltb-true, ltb-false, lt-ltb}
use Rattle.rules.specs.declared.QueueRecord.{QueueRecord}
use Rattle.rules.specs.declared.Ring.{Ring}
use Rattle.rules.specs.Kept.{with_tail}
use Rattle.rules.specs.Queues.{next_tail, has_room}
use Rattle.rules.proofs.Sentences.{entries_in, RingOf, room_below, one_more}
use Rattle.records.specs.Sound.{RingSound}
use Rattle.promises.specs.Resent.{room_in}

-- the place i entries behind tail: before the ring's end, or gone round
abbrev pub Place : ℕ → ℕ → ℕ → ℕ → Type 0
Place size tail i q = ((tail + 64 * i < size) × (q ≡ tail + 64 * i)) ⊎ ((size ≤ tail + 64 * i) × (q + size ≡ tail + 64 * i))

pub place_is : (size tail i : ℕ) → tail < size → 64 * i < size → Place size tail i ((tail + 64 * i) % size)
place_is size tail i h l = go (ltb (tail + 64 * i) size) refl
  where
    go : (t : Bool) → ltb (tail + 64 * i) size ≡ t → Place size tail i ((tail + 64 * i) % size)
    go true e = inl (ltb-true (tail + 64 * i) size e, mod-eq_of_lt (ltb-true (tail + 64 * i) size e))
    go false e =
        let past : size ≤ tail + 64 * i = ltb-false (tail + 64 * i) size e in
        let back : tail + 64 * i ≡ tail + 64 * i - size + size = omega arith in
        let round : (tail + 64 * i) % size ≡ tail + 64 * i - size = ap (λ (x : ℕ). x % size) back ∙ add-mod_right (tail + 64 * i - size) size ∙ mod-eq_of_lt (omega arith) in
        inr (past, rw round (omega arith))

module _ (v : ℕ → ℕ → Bool) (ring : Ring) (s : RingSound v ring) where
  of_entries : RingOf (ring.size / 64) ring
  of_entries = record { size = omega (arith, s.whole); head = s.head; head_below = s.head_below; tail = s.tail; tail_below = s.tail_below }

  pub room_within : 64 * room_in (QueueRecord.Set ring) < ring.size
  room_within = omega (arith, s.whole, s.least)

  fewer : has_room ring ≡ true → entries_in ring < ring.size / 64 - 1
  fewer e = ltb-true _ _ (sym (room_below (ring.size / 64) ring of_entries) ∙ e)

  -- what has room for one more takes it
  pub some_room : 0 < room_in (QueueRecord.Set ring) → has_room ring ≡ true
  some_room h = room_below (ring.size / 64) ring of_entries ∙ lt-ltb (entries_in ring) (ring.size / 64 - 1) (omega arith)

  -- an entry takes the place of one
  pub room_less : has_room ring ≡ true → suc (room_in (QueueRecord.Set (with_tail ring (next_tail ring)))) ≡ room_in (QueueRecord.Set ring)
  room_less e = omega (arith, fewer e, one_more (ring.size / 64) ring of_entries e)

  -- a place behind the next tail is one further behind this one
  pub place_shift : (k : ℕ) → (next_tail ring + 64 * k) % ring.size ≡ (ring.tail + 64 * suc k) % ring.size
  place_shift k =
      let e : ring.tail + 64 + 64 * k ≡ ring.tail + 64 * suc k = omega arith in
      mod-add-mod (ring.tail + 64) ring.size (64 * k) ∙ ap (λ (x : ℕ). x % ring.size) e
