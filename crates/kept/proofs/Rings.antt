-- Rings that stay right.
use Rattle.std.proofs.Common.{Ok}
use mathlib.Core.Path.{◌≡◌, refl, sym, ap, ◌∙◌}
use mathlib.Core.Bool.{Bool, true, false, ◌&&◌}
use mathlib.Core.List.{List}
use Prim.Native.Nat.{ℕ, ◌*◌, ◌/◌, ◌%◌, ◌<◌}
use native.Mathlib.Omega.{arith}
use lib.Dec.{eqb}
use borrow.Author.Tests.{lt-ltb, eq-eqb}
use Rattle.rules.specs.declared.QueueRecord.{QueueRecord}
use Rattle.rules.specs.declared.Ring.{Ring}
use Rattle.rules.specs.Kept.{with_head, with_tail}
use Rattle.rules.specs.Rulings.{granted, accepts}
use Rattle.rules.specs.Queues.{new_ring, has_room, next_tail, put_in}
use Rattle.rules.specs.Tables.{record_right, ring_right, place_right}
use Rattle.rules.proofs.Tests.{and_left, and_right}
use Rattle.records.specs.Sound.{RingSound}
use Rattle.records.specs.Verdict.{verdict_of}
use Rattle.records.proofs.Told.{ring_told, entries_least}
use Rattle.records.proofs.SoundLaws.{ring_sound}
use Rattle.plants.proofs.SoundAfter.{tail_moved}

pub place_right_lem : (size at : ℕ) → at % 64 ≡ 0 → at < size → place_right size at ≡ true
unfolding place_right
place_right_lem size at m l = rw (eq-eqb (at % 64) 0 m) (lt-ltb at size l)

-- a ring that was granted
pub new_ring_right : (v : ℕ → ℕ → Bool) (base n : ℕ) (ring : Ring) → new_ring v base n ≡ granted ring → ring_right v ring ≡ true
unfolding ring_right verdict_of
new_ring_right v base n ring e =
    let told : verdict_of (new_ring v base n) ≡ (Ok tt) = ap verdict_of e in
    let q : granted (record { base = base; size = 64 * n; head = 0; tail = 0 }) ≡ granted ring = sym (ring_told v base n told) ∙ e in
    let r : record { base = base; size = 64 * n; head = 0; tail = 0 } ≡ ring = cc in
    rw (← r) (fresh told)
  where
    fresh : verdict_of (new_ring v base n) ≡ (Ok tt) → ((eqb (64 * n % 64) 0 && accepts (new_ring v base (64 * n / 64))) && (place_right (64 * n) 0 && place_right (64 * n) 0)) ≡ true
    fresh told =
        let a : 64 * n % 64 ≡ 0 = omega arith in
        let b : 64 * n / 64 ≡ n = omega arith in
        rw (eq-eqb (64 * n % 64) 0 a, b, e, place_right_lem (64 * n) 0 refl (omega (arith, entries_least v base n told)))

module _ (v : ℕ → ℕ → Bool) (ring : Ring) (e : ring_right v ring ≡ true) where
  abbrev set_part : Bool
  set_part = eqb (ring.size % 64) 0 && accepts (new_ring v ring.base (ring.size / 64))

  set_right : set_part ≡ true
  unfolding ring_right
  set_right = and_left set_part (place_right ring.size ring.head && place_right ring.size ring.tail) e

  places : (place_right ring.size ring.head && place_right ring.size ring.tail) ≡ true
  unfolding ring_right
  places = and_right set_part (place_right ring.size ring.head && place_right ring.size ring.tail) e

  pub head_right : (value : ℕ) → value % 64 ≡ 0 → value < ring.size → ring_right v (with_head ring value) ≡ true
  unfolding ring_right
  head_right value m l = rw (set_right, place_right_lem ring.size value m l) (and_right (place_right ring.size ring.head) _ places)

  pub tail_right : ring_right v (with_tail ring (next_tail ring)) ≡ true
  unfolding ring_right
  tail_right =
      let s : RingSound v (with_tail ring (next_tail ring)) = tail_moved v ring (ring_sound v ring e) in
      rw (set_right, and_left (place_right ring.size ring.head) _ places) (place_right_lem ring.size (next_tail ring) s.tail s.tail_below)

-- a queue's record that an entry is put into
pub put_right : (v : ℕ → ℕ → Bool) (held : QueueRecord) (entry : List ℕ) → record_right v held ≡ true → record_right v (put_in held entry).held ≡ true
unfolding put_in
put_right v QueueRecord.Unset entry h = refl
put_right v (QueueRecord.Set ring) entry h = go (has_room ring) refl
  where
    go : (t : Bool) → has_room ring ≡ t → record_right v (put_in (QueueRecord.Set ring) entry).held ≡ true
    go true e = rw e (tail_right v ring h)
    go false e = rw e h
