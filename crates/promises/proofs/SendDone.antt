-- An entry of a mondo's list that is sent: its ring's tail moves on, the place at the tail reads the data, the entry reads 0xffff, and
-- nothing else changed.
use Rattle.std.specs.Prelude.{if◌then◌else◌}
use mathlib.Core.Path.{◌≡◌, refl, sym, ap, ◌∙◌, subst}
use mathlib.Core.Bool.{Bool, true, false}
use mathlib.Core.List.{List, [], ◌∷◌}
use Prim.Native.Nat.{ℕ, suc, ◌+◌, ◌*◌, ◌≤◌, ◌<◌}
use native.Mathlib.Omega.{arith}
use lib.Dec.{eqb}
use lib.ListN.{length}
use borrow.Author.Tests.{eqb-true, eqb-false, eq-eqb, ne_eqb}
use Rattle.rules.specs.declared.Plant.{Plant}
use Rattle.rules.specs.declared.QueueRecord.{QueueRecord}
use Rattle.rules.specs.declared.Ring.{Ring}
use Rattle.rules.specs.Kept.{with_tail}
use Rattle.rules.specs.Real.{Sight, Write, number_of, bytes_from}
use Rattle.rules.specs.Queues.{next_tail, has_room}
use Rattle.rules.specs.Mondo.{listed_cpu, listed_cpus, Sent, send_one, send_all}
use Rattle.records.specs.Sound.{RingSound, RecordSound}
use Rattle.plants.proofs.SoundAfter.{tail_moved}
use Rattle.promises.specs.Machine.{written, all_written}
use Rattle.promises.specs.Resent.{times, mondo_ring, room_in, ring_base, ring_size}
use Rattle.promises.proofs.Rooms.{room_less}
use Rattle.promises.proofs.RingGains.{place_of, entry_at, place_inside, place_apart, gets_more, gets_since}
use Rattle.promises.proofs.SendSteps.{ring_put, ring_other, ring_new, sent}
use Rattle.promises.proofs.SendState.{Setting, Stands, Gain, Ends, listed_same, no_mark, others_read, wider, in_front}
use Rattle.promises.proofs.WroteLaws.{wrote_else, wrote_at, range_else, range_own}

module _ (S : Setting) (plant : Plant) (s : Sight) (x : ℕ) (xs : List ℕ) (mark : ℕ) (st : Stands S plant s (x ∷ xs) mark) (there : x < S.cpus) (ring : Ring) (held : mondo_ring plant x ≡ QueueRecord.Set ring) (room : has_room ring ≡ true) where
  open S use {v, part, cpus, few, base, size, rings, packet, full}

  abbrev next : Ring
  next = with_tail ring (next_tail ring)

  abbrev with_next : Plant
  with_next = ring_put plant x (QueueRecord.Set next)

  abbrev entry : Write
  entry = record { at = ring.base + ring.tail; bytes = packet }

  abbrev mark_of : Write
  mark_of = record { at = mark; bytes = 0xff ∷ 0xff ∷ [] }

  -- memory with the entry, and with the mark
  abbrev filled : Sight
  filled = written s entry

  abbrev marked : Sight
  marked = written filled mark_of

  ring_right_lem : RingSound v ring
  ring_right_lem = subst (RecordSound v) held (st.sound x there)

  at_base : ring.base ≡ base x
  at_base = sym (ap ring_base held) ∙ st.based x there

  of_size : ring.size ≡ size x
  of_size = sym (ap ring_size held) ∙ st.sized x there

  fits : ring.tail + 64 ≤ ring.size
  fits = omega (arith, ring_right_lem.tail_below, ring_right_lem.tail, ring_right_lem.whole)

  valid_one : (b m k : ℕ) → v b m ≡ true → k < m → s.valid (b + k) 1 ≡ true
  valid_one b m k e l = ap (λ (f : ℕ → ℕ → Bool). f (b + k) 1) st.seen ∙ part b m k 1 e (omega arith)

  -- the ring's addresses are none of the entry's
  off_mark : (b : ℕ) → ring.base ≤ b → b < ring.base + ring.size → mark ≤ b → b < mark + 2 → ⊥
  off_mark b p q l h = st.apart x there b l (omega arith) (omega (arith, at_base)) (omega (arith, at_base, of_size))

  -- what is neither in the ring nor the entry is as it was
  elsewhere : (b : ℕ) → (base x ≤ b → b < base x + size x → ⊥) → (mark ≤ b → b < mark + 2 → ⊥) → marked.byte b ≡ s.byte b
  elsewhere b p q =
      wrote_else filled mark_of b q
      ∙ wrote_else s entry b (λ l h. p (omega (arith, at_base)) (omega (arith, at_base, of_size, full, fits)))

  -- the place at the tail reads the data, and the places behind it what they read
  at_tail_lem : bytes_from marked.byte (ring.base + ring.tail) 64 ≡ packet
  at_tail_lem =
      range_else filled mark_of (ring.base + ring.tail) 64 (λ b l h p q. off_mark b (omega arith) (omega (arith, fits)) p q)
      ∙ subst (λ (k : ℕ). bytes_from filled.byte (ring.base + ring.tail) k ≡ packet) full (range_own s entry own_byte)
    where
      own_byte : (k : ℕ) → k < length packet → s.valid (ring.base + ring.tail + k) 1 ≡ true
      own_byte k h =
          let q : ring.base + (ring.tail + k) ≡ ring.base + ring.tail + k = omega arith in
          subst (λ (a : ℕ). s.valid a 1 ≡ true) q (valid_one ring.base ring.size (ring.tail + k) ring_right_lem.within (omega (arith, full, fits)))

  behind : (k : ℕ) → 0 < k → 64 * k < ring.size → entry_at marked ring k ≡ entry_at s ring k
  behind k l h =
      let in_ring : place_of ring k + 64 ≤ ring.size = place_inside v ring ring_right_lem k h in
      range_else filled mark_of (ring.base + place_of ring k) 64 (λ b u w p q. off_mark b (omega arith) (omega arith) p q)
      ∙ range_else s entry (ring.base + place_of ring k) 64 (λ b u w p q. clash b u w p (rw full at q))
    where
      clash : (b : ℕ) → ring.base + place_of ring k ≤ b → b < ring.base + place_of ring k + 64 → ring.base + ring.tail ≤ b → b < ring.base + ring.tail + 64 → ⊥
      clash b u w p q = place_apart v ring ring_right_lem k l h (omega arith) (omega arith)

  -- the entry reads 0xffff
  mark_read : listed_cpu marked.byte mark 0 ≡ 0xffff
  unfolding number_of
  mark_read =
      let first_byte : marked.byte (mark + 0) ≡ 0xff = wrote_at filled mark_of 0 (omega arith) (valid_one mark (2 * suc (length xs)) 0 st.own (omega arith)) in
      let second_byte : marked.byte (mark + 1) ≡ 0xff = wrote_at filled mark_of 1 (omega arith) (valid_one mark (2 * suc (length xs)) 1 st.own (omega arith)) in
      let here : mark + 2 * 0 ≡ mark = omega arith in
      rw (here, first_byte, second_byte)

  -- the list behind the entry reads as it did
  list_behind : listed_cpus marked.byte (mark + 2) (length xs) ≡ xs
  list_behind =
      listed_same marked.byte s.byte (mark + 2) (length xs) (λ j h. elsewhere (mark + 2 + j) (λ p q. st.apart x there (mark + 2 + j) (omega arith) (omega arith) p q) (λ p q. omega arith))
      ∙ others_read S plant s x xs mark st

  -- each cpu's record now
  mine : mondo_ring with_next x ≡ QueueRecord.Set next
  mine = ring_new plant x ring next held

  theirs : (c : ℕ) → (c ≡ x → ⊥) → mondo_ring with_next c ≡ mondo_ring plant c
  theirs c d = ring_other plant x (QueueRecord.Set next) c d

  each_ring : (P : ℕ → QueueRecord → Type 0) → P x (QueueRecord.Set next) → ((c : ℕ) → c < cpus → P c (mondo_ring plant c)) → (c : ℕ) → c < cpus → P c (mondo_ring with_next c)
  each_ring P p q c h = go (eqb c x) refl
    where
      go : (t : Bool) → eqb c x ≡ t → P c (mondo_ring with_next c)
      go true e = rw (eqb-true c x e, mine) p
      go false e = rw (theirs c (eqb-false c x e)) (q c h)

  pub stands : Stands S with_next marked xs (mark + 2)
  stands = record {
    seen = st.seen;
    sound = each_ring (λ c held. RecordSound v held) (tail_moved v ring ring_right_lem) st.sound;
    based = each_ring (λ c held. ring_base held ≡ base c) at_base st.based;
    sized = each_ring (λ c held. ring_size held ≡ size c) of_size st.sized;
    own = part mark (2 * suc (length xs)) 2 (2 * length xs) st.own (omega arith);
    apart = λ c h b l u p q. st.apart c h b (omega arith) (omega arith) p q;
    reads = sym list_behind;
    known = st.known.1;
  }

  module _ (e : send_one plant x packet mark ≡ sent plant x packet mark ring) (ends : Ends S with_next marked xs (mark + 2) (send_all with_next xs packet (mark + 2))) where
    abbrev rest : Sent
    rest = send_all with_next xs packet (mark + 2)

    abbrev later : Sight
    later = all_written marked rest.writes

    abbrev whole_list : Sent
    whole_list = record { plant = rest.plant; all = rest.all; writes = entry ∷ mark_of ∷ rest.writes }

    list_gone : listed_cpus later.byte mark (suc (length xs)) ≡ 0xffff ∷ listed_cpus later.byte (mark + 2) (length xs)
    list_gone = in_front S plant s x xs mark st marked later 0xffff mark_read ends.others

    own_gain : Gain S x plant s (x ∷ xs) mark whole_list
    unfolding times all_written
    own_gain =
        let g = ends.gains x there in
        record {
          number = suc g.number;
          gets = rw held (gets_more v ring ring_right_lem room s marked later packet (mondo_ring rest.plant x) g.number at_tail_lem behind (rw mine at g.gets));
          rest = rw (list_gone, no_mark S x there, eq-eqb x x refl) (omega (arith, g.rest));
          whole = λ a. rw (eq-eqb x x refl) (omega (arith, g.whole a));
        }

    other_gain : (c : ℕ) → c < cpus → (c ≡ x → ⊥) → Gain S c plant s (x ∷ xs) mark whole_list
    unfolding times all_written
    other_gain c h not =
        let g = ends.gains c h in
        record {
          number = g.number;
          gets = gets_since v (mondo_ring plant c) (mondo_ring rest.plant c) s marked later packet g.number (st.sound c h) untouched (rw (theirs c not) at g.gets);
          rest = rw (list_gone, no_mark S c h, ne_eqb x c (λ z. not (sym z))) (omega (arith, g.rest));
          whole = λ a. rw (ne_eqb x c (λ z. not (sym z))) (omega (arith, g.whole a));
        }
      where
        untouched : (b : ℕ) → ring_base (mondo_ring plant c) ≤ b → b < ring_base (mondo_ring plant c) + ring_size (mondo_ring plant c) → marked.byte b ≡ s.byte b
        untouched b p l =
            let low : base c ≤ b = omega (arith, st.based c h) in
            let high : b < base c + size c = omega (arith, st.based c h, st.sized c h) in
            elsewhere b (λ a z. rings c x h there not b low high a z) (λ a z. st.apart c h b a (omega arith) low high)

    gain : (c : ℕ) → c < cpus → (t : Bool) → eqb c x ≡ t → Gain S c plant s (x ∷ xs) mark whole_list
    gain c h true q = subst (λ (d : ℕ). Gain S d plant s (x ∷ xs) mark whole_list) (sym (eqb-true c x q)) own_gain
    gain c h false q = other_gain c h (eqb-false c x q)

    pub done_ends : Ends S plant s (x ∷ xs) mark (send_all plant (x ∷ xs) packet mark)
    unfolding send_all times all_written
    done_ends = rw e (record {
      others = λ b o. ends.others b (wider S plant s x xs mark st b o) ∙ elsewhere b (o.1 x there) (λ p q. o.0 p (omega arith));
      entries = λ P p f. rw list_gone (p, ends.entries P p f.1);
      gains = λ c h. gain c h (eqb c x) refl;
      enough = λ f. ends.enough (each_ring (λ c held. times c xs ≤ room_in held) (room_left (f x there)) (λ c h. omega (arith, f c h)));
    })
      where
        room_left : times x (x ∷ xs) ≤ room_in (mondo_ring plant x) → times x xs ≤ room_in (QueueRecord.Set next)
        room_left f = let g : (if eqb x x then 1 else 0) + times x xs ≤ room_in (QueueRecord.Set ring) = rw held at f in omega (arith, rw (eq-eqb x x refl) at g, room_less v ring ring_right_lem room)
