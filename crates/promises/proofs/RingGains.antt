-- What a ring has got: entries behind its tail, one after another, and no other place of it changed.
use mathlib.Core.Path.{◌≡◌, refl, sym, ap, ◌∙◌}
use mathlib.Core.Bool.{Bool, true}
use mathlib.Core.List.{List}
use mathlib.Core.Logic.{inl, inr}
use Prim.Native.Nat.{ℕ, zero, suc, ◌+◌, ◌-◌, ◌*◌, ◌/◌, ◌%◌, ◌≤◌, ◌<◌}
use native.Mathlib.Nat.{mod-eq_of_lt, add-mod_right}
use native.Mathlib.Omega.{arith}
use Rattle.rules.specs.declared.QueueRecord.{QueueRecord}
use Rattle.rules.specs.declared.Ring.{Ring}
use Rattle.rules.specs.Kept.{with_tail}
use Rattle.rules.specs.Real.{Sight, bytes_from}
use Rattle.rules.specs.Queues.{next_tail, has_room}
use Rattle.records.specs.Sound.{RingSound, RecordSound}
use Rattle.memory.proofs.Numbers.{bytes_same}
use Rattle.promises.specs.Resent.{room_in, ring_base, ring_size, Got}
use Rattle.promises.proofs.Rooms.{Place, place_is, room_within, room_less, place_shift}

-- the place k entries behind the tail, and what stands there
abbrev pub place_of : Ring → ℕ → ℕ
place_of ring k = (ring.tail + 64 * k) % ring.size

abbrev pub entry_at : Sight → Ring → ℕ → List ℕ
entry_at s ring k = bytes_from s.byte (ring.base + place_of ring k) 64

-- from s to t the ring got n packets
pub record GotIn (ring : Ring) (after : QueueRecord) (s t : Sight) (packet : List ℕ) (n : ℕ) : Type 0 where
  pub moved : after ≡ QueueRecord.Set (with_tail ring (place_of ring n))
  pub within : n ≤ room_in (QueueRecord.Set ring)
  pub got : (k : ℕ) → k < n → entry_at t ring k ≡ packet
  pub others : (k : ℕ) → n ≤ k → 64 * k < ring.size → entry_at t ring k ≡ entry_at s ring k

abbrev pub Gets : QueueRecord → QueueRecord → Sight → Sight → List ℕ → ℕ → Type 0
Gets QueueRecord.Unset after s t packet n = (after ≡ QueueRecord.Unset) × (n ≡ 0)
Gets (QueueRecord.Set ring) after s t packet n = GotIn ring after s t packet n

-- where the places lie
inside : (size tail k q : ℕ) → size % 64 ≡ 0 → tail % 64 ≡ 0 → tail < size → 64 * k < size → Place size tail k q → q + 64 ≤ size
inside size tail k q w z b l (inl p) = omega (arith, p.0, p.1)
inside size tail k q w z b l (inr p) = omega (arith, p.0, p.1)

distinct : (size tail k q : ℕ) → size % 64 ≡ 0 → tail % 64 ≡ 0 → 0 < k → 64 * k < size → Place size tail k q → q < tail + 64 → tail < q + 64 → ⊥
distinct size tail k q w z l h (inl p) a b = omega (arith, p.0, p.1)
distinct size tail k q w z l h (inr p) a b = omega (arith, p.0, p.1)

module _ (v : ℕ → ℕ → Bool) (ring : Ring) (sound : RingSound v ring) where
  pub place_inside : (k : ℕ) → 64 * k < ring.size → place_of ring k + 64 ≤ ring.size
  place_inside k l = inside ring.size ring.tail k (place_of ring k) sound.whole sound.tail sound.tail_below l (place_is ring.size ring.tail k sound.tail_below l)

  -- a place behind the tail has no byte of the one at the tail
  pub place_apart : (k : ℕ) → 0 < k → 64 * k < ring.size → place_of ring k < ring.tail + 64 → ring.tail < place_of ring k + 64 → ⊥
  place_apart k l h = distinct ring.size ring.tail k (place_of ring k) sound.whole sound.tail l h (place_is ring.size ring.tail k sound.tail_below h)

  pub first_place : place_of ring 0 ≡ ring.tail
  first_place =
      let e : ring.tail + 64 * 0 ≡ ring.tail = omega arith in
      rw e (mod-eq_of_lt sound.tail_below)

  -- nothing is got
  pub gets_none : (s : Sight) (packet : List ℕ) → GotIn ring (QueueRecord.Set ring) s s packet 0
  gets_none s packet = record {
    moved = rw first_place refl;
    within = omega arith;
    got = λ k h. absurd (omega arith);
    others = λ k h l. refl;
  }

  -- an entry in front: it is written at the tail, and the rest goes behind it
  module _ (room : has_room ring ≡ true) (s u t : Sight) (packet : List ℕ) (after : QueueRecord) (n : ℕ) (own : bytes_from u.byte (ring.base + ring.tail) 64 ≡ packet) (same : (k : ℕ) → 0 < k → 64 * k < ring.size → entry_at u ring k ≡ entry_at s ring k) (rest : GotIn (with_tail ring (next_tail ring)) after u t packet n) where
    abbrev next : Ring
    next = with_tail ring (next_tail ring)

    behind : (x : Sight) (k : ℕ) → entry_at x next k ≡ entry_at x ring (suc k)
    behind x k = ap (λ (q : ℕ). bytes_from x.byte (ring.base + q) 64) (place_shift v ring sound k)

    more : suc n ≤ room_in (QueueRecord.Set ring)
    more = omega (arith, rest.within, room_less v ring sound room)

    -- the last place behind the next tail is this tail
    last : ℕ
    last = ring.size / 64 - 1

    round : place_of next last ≡ ring.tail
    unfolding last
    round =
        let e : ring.tail + 64 * suc (ring.size / 64 - 1) ≡ ring.tail + ring.size = omega (arith, sound.whole, sound.least) in
        place_shift v ring sound (ring.size / 64 - 1) ∙ ap (λ (x : ℕ). x % ring.size) e ∙ add-mod_right ring.tail ring.size ∙ mod-eq_of_lt sound.tail_below

    still : entry_at t ring 0 ≡ packet
    unfolding last
    still =
        let o : entry_at t next last ≡ entry_at u next last = rest.others last (omega (arith, room_within v ring sound, more, sound.whole)) (omega (arith, sound.whole, sound.least)) in
        rw first_place (rw round at o ∙ own)

    pub gets_more : GotIn ring after s t packet (suc n)
    gets_more = record {
      moved = rest.moved ∙ ap (λ (q : ℕ). QueueRecord.Set (with_tail ring q)) (place_shift v ring sound n);
      within = more;
      got = got;
      others = others;
    }
      where
        got : (k : ℕ) → k < suc n → entry_at t ring k ≡ packet
        got zero h = still
        got (suc k) h = sym (behind t k) ∙ rest.got k (omega arith)

        others : (k : ℕ) → suc n ≤ k → 64 * k < ring.size → entry_at t ring k ≡ entry_at s ring k
        others zero h l = absurd (omega arith)
        others (suc k) h l = sym (behind t k) ∙ rest.others k (omega arith) (omega arith) ∙ behind u k ∙ same (suc k) (omega arith) l

-- a ring whose bytes were the same somewhat earlier
pub gets_since : (v : ℕ → ℕ → Bool) (held after : QueueRecord) (s u t : Sight) (packet : List ℕ) (n : ℕ) → RecordSound v held
    → ((b : ℕ) → ring_base held ≤ b → b < ring_base held + ring_size held → u.byte b ≡ s.byte b) → Gets held after u t packet n → Gets held after s t packet n
gets_since v QueueRecord.Unset after s u t packet n sound same g = g
gets_since v (QueueRecord.Set ring) after s u t packet n sound same g = record {
  moved = g.moved;
  within = g.within;
  got = g.got;
  others = λ k h l. g.others k h l ∙ bytes_same u.byte s.byte (ring.base + place_of ring k) (ring.base + place_of ring k) 64 (λ j m. same (ring.base + place_of ring k + j) (omega arith) (omega (arith, place_inside v ring sound k l)));
}

pub gets_nothing : (v : ℕ → ℕ → Bool) (held : QueueRecord) (s : Sight) (packet : List ℕ) → RecordSound v held → Gets held held s s packet 0
gets_nothing v QueueRecord.Unset s packet sound = (refl, refl)
gets_nothing v (QueueRecord.Set ring) s packet sound = gets_none v ring sound s packet

-- in the promise's words
pub gets_got : (v : ℕ → ℕ → Bool) (held after : QueueRecord) (s t : Sight) (packet : List ℕ) (n : ℕ) → RecordSound v held → Gets held after s t packet n → Got held after t packet n
gets_got v QueueRecord.Unset after s t packet n sound g = g
gets_got v (QueueRecord.Set ring) after s t packet n sound g = (g.moved, omega (arith, g.within, room_within v ring sound), g.got)
