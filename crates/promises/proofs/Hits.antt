-- Promise: a TSB hit is counted in the two words of its row, and changes nothing else.
use mathlib.Core.Path.{◌≡◌, refl, sym, ap, ◌∙◌}
use mathlib.Core.Bool.{Bool, true, false, ◌&&◌, true≢false}
use mathlib.Core.List.{List, [], ◌∷◌}
use mathlib.Core.Logic.{⊎_elim}
use Prim.Native.Nat.{ℕ, ◌+◌, ◌%◌, ◌^◌, ◌<◌, ◌≤◌}
use native.Mathlib.Omega.{arith}
use lib.Dec.{ltb}
use lib.Seq.{set-get_or}
use borrow.Author.Tests.{eq-eqb, ne_eqb, leb-true, lt-ltb}
use Rattle.rules.specs.declared.Answer.TheVariants.{Done, Refused}
use Rattle.rules.specs.declared.Event.{Event}
use Rattle.rules.specs.declared.Plant.{Plant}
use Rattle.rules.specs.declared.Refusal.TheVariants.{EINVAL, NoCaller}
use Rattle.rules.specs.declared.Tables.{Tables}
use Rattle.rules.specs.declared.TsbHit.{TsbHit}
use Rattle.rules.specs.Kept.{plant_at, extents_of, hollow_guest}
use Rattle.rules.specs.Real.{Sight, sight_of, valid, byte_at, number_of, word_bytes}
use Rattle.rules.specs.Rulings.{Ruling, Outcome, outcome_of, ◌or_refuse◌then◌}
use Rattle.rules.specs.Tsb.{is_page_index}
use Rattle.rules.specs.Hits.{is_side, is_context_mark, hits_offset, tsb_hit}
use Rattle.rules.specs.Host.{HostOutcome, plant_rule, owner_of, host_event}
use Rattle.rules.proofs.Tests.{and_left, and_right}
use Rattle.memory.proofs.Numbers.{number_same}
use Rattle.memory.proofs.Places.{valid_part}
use Rattle.memory.proofs.Sights.{over, over_before, over_past, stored_word}
use Rattle.hits.proofs.HitLaws.{index_most}
use Rattle.tables.proofs.SoundTables.{sound}
use Rattle.promises.specs.Words.{Passes, Unchanged}
use Rattle.promises.specs.Machine.{Machine, all_written, did, moved, machine_of}
use Rattle.promises.specs.Hits.{HitThere, hit_named, buffer_of, hits_at, word_seen, Counted}
use Rattle.promises.specs.Promises.{Hits}
use Rattle.promises.proofs.AloneSteps.{own_step}
use Rattle.promises.proofs.Door.{at_door, at_owner}
use Rattle.promises.proofs.Granting.{by_then, by_outcome, by_hit}
use Rattle.promises.proofs.Refusals.{puts_nothing}
use Rattle.promises.proofs.WrittenBytes.{over_valid, over_written}

-- the numbers of a hit that is named
module _ (t : TsbHit) (n : hit_named t ≡ true) where
  side_is : is_side t.side ≡ true
  side_is = and_left _ _ n

  context_is : is_context_mark t.context ≡ true
  context_is = and_left _ _ (and_right (is_side t.side) _ n)

  index_is : is_page_index t.index ≡ true
  index_is = and_right (is_context_mark t.context) _ (and_right (is_side t.side) _ n)

  index_few : t.index ≤ 5
  index_few = index_most t.index true (sym index_is) refl

  rows_inside : hits_offset t.side t.context t.index + 16 ≤ 512
  rows_inside = omega (arith, index_few, leb-true t.side 1 side_is, leb-true t.context 1 context_is)

rows_apart : (t u : TsbHit) → hit_named t ≡ true → hit_named u ≡ true
    → hits_offset t.side t.context t.index < hits_offset u.side u.context u.index + 16
    → hits_offset u.side u.context u.index < hits_offset t.side t.context t.index + 16
    → (t.side ≡ u.side) × (t.context ≡ u.context) × (t.index ≡ u.index)
rows_apart t u n m p q =
    let a : t.side ≤ 1 = leb-true t.side 1 (side_is t n) in
    let b : u.side ≤ 1 = leb-true u.side 1 (side_is u m) in
    let c : t.context ≤ 1 = leb-true t.context 1 (context_is t n) in
    let d : u.context ≤ 1 = leb-true u.context 1 (context_is u m) in
    let e : t.index ≤ 5 = index_few t n in
    let f : u.index ≤ 5 = index_few u m in
    (omega arith, omega arith, omega arith)

-- Two words that stand one behind the other, over what was seen: each is seen, and no other byte is another one.
module _ (s : Sight) (at x y : ℕ) (own : (j : ℕ) → j < 16 → s.valid (at + j) 1 ≡ true) where
  abbrev first : Sight
  first = over s at (word_bytes x)

  abbrev both : Sight
  both = over first (at + 8) (word_bytes y)

  first_seen : x < 2 ^ 64 → number_of both.byte at 8 ≡ x
  first_seen l =
      number_same both.byte first.byte at at 8 (λ j h. over_before (word_bytes y) first (at + 8) (at + j) (omega arith))
      ∙ stored_word x s at l (λ j h. own j (omega arith))

  second_own : (j : ℕ) → j < 8 → first.valid (at + 8 + j) 1 ≡ true
  second_own j h =
      let e : at + 8 + j ≡ at + (8 + j) = omega arith in
      rw (over_valid (word_bytes x) s at, e) (own (8 + j) (omega arith))

  second_seen : y < 2 ^ 64 → number_of both.byte (at + 8) 8 ≡ y
  second_seen l = stored_word y first (at + 8) l second_own

  below_seen : (a : ℕ) → a < at → both.byte a ≡ s.byte a
  below_seen a h = over_before (word_bytes y) first (at + 8) a (omega arith) ∙ over_before (word_bytes x) s at a h

  past_seen : (a : ℕ) → at + 16 ≤ a → both.byte a ≡ s.byte a
  unfolding word_bytes
  past_seen a h = over_past (word_bytes y) first (at + 8) a (omega arith) ∙ over_past (word_bytes x) s at a (omega arith)

-- No hit changes a record.
module _ (tables : Tables) (memory : List ℕ) (t : TsbHit) where
  plant_stays : (g : ℕ) → (did (machine_of tables memory g) (Event.Hit t)).plant ≡ plant_at tables g
  unfolding plant_rule
  plant_stays g =
      let plant : Plant = plant_at tables g in
      let sight : Sight = sight_of (extents_of tables g) memory in
      by_outcome (λ o. o.plant ≡ plant) plant (plant_rule sight plant (Event.Hit t)) (λ r. refl)
      (by_then (λ (o : Outcome). o.plant ≡ plant) (ltb t.cpu plant.cpus) NoCaller _ (by_hit (λ o. o.plant ≡ plant) sight plant t (λ writes. refl)))

  records_stay : (host_event tables memory (Event.Hit t)).tables ≡ tables
  records_stay =
      at_door (λ o. o.tables ≡ tables) tables memory (Event.Hit t) (λ _ _. refl) (λ g _ _ _.
      rw (plant_stays g) (ap (λ l. record { guests = tables.guests; guest = l }) (set-get_or tables.guest g hollow_guest)))

-- A hit of a guest and a cpu that are there, on a host that passes.
module _ (tables : Tables) (memory : List ℕ) (t : TsbHit) (p : Passes tables memory) (there : HitThere tables t) where
  abbrev g : ℕ
  g = t.guest

  abbrev before : Machine
  before = machine_of tables memory g

  abbrev after : HostOutcome
  after = host_event tables memory (Event.Hit t)

  mine : (after.answer ≡ (did before (Event.Hit t)).answer) × (machine_of after.tables after.memory g ≡ moved before (Event.Hit t))
  unfolding owner_of
  mine = own_step tables memory (Event.Hit t) p.keep p.long g there.guest (eq-eqb g g refl)

  -- what the guest sees afterwards
  seen : sight_of (extents_of tables g) after.memory ≡ all_written before.sight (did before (Event.Hit t)).writes
  seen =
      ap (λ (u : Tables). sight_of (extents_of u g) after.memory) (sym (records_stay tables memory t))
      ∙ ap (λ (m : Machine). m.sight) mine.1

  -- it is named, and counted
  module _ (n : hit_named t ≡ true) where
    idle : buffer_of tables t ≡ 0 → did before (Event.Hit t) ≡ record { answer = Done; plant = before.plant; writes = [] }
    unfolding plant_rule tsb_hit
    idle z = rw (lt-ltb t.cpu (plant_at tables g).cpus there.cpu, side_is t n, context_is t n, index_is t n, eq-eqb (buffer_of tables t) 0 z)

    uncounted : buffer_of tables t ≡ 0 → (after.answer ≡ Done) × Unchanged tables memory after
    unfolding owner_of
    uncounted z = (
      mine.0 ∙ ap (λ (o : Outcome). o.answer) (idle z),
      at_owner (Unchanged tables memory) tables memory (Event.Hit t) g refl (λ _ _. (refl, refl))
          (puts_nothing tables memory g (did before (Event.Hit t)) (ap (λ (o : Outcome). o.plant) (idle z)) (ap (λ (o : Outcome). o.writes) (idle z))),
    )

    module _ (some : buffer_of tables t ≡ 0 → ⊥) where
      abbrev at : ℕ
      at = hits_at tables t

      abbrev hits_after : ℕ
      hits_after = (word_seen tables memory g at + 1) % 2 ^ 64

      abbrev ticks_after : ℕ
      ticks_after = (word_seen tables memory g (at + 8) + t.ticks) % 2 ^ 64

      wrote : did before (Event.Hit t) ≡ record { answer = Done; plant = before.plant; writes = record { at = at; bytes = word_bytes hits_after } ∷ record { at = at + 8; bytes = word_bytes ticks_after } ∷ [] }
      unfolding plant_rule tsb_hit
      wrote = rw (lt-ltb t.cpu (plant_at tables g).cpus there.cpu, side_is t n, context_is t n, index_is t n, ne_eqb (buffer_of tables t) 0 some)

      own : (j : ℕ) → j < 16 → valid (extents_of tables g) (at + j) 1 ≡ true
      own j h =
          let s = sound tables p.keep g there.guest _ p.long in
          let e : at + j ≡ buffer_of tables t + (hits_offset t.side t.context t.index + j) = omega arith in
          rw e (valid_part (extents_of tables g) (buffer_of tables t) 512 (hits_offset t.side t.context t.index + j) 1 (s.buffers t.cpu there.cpu some) (omega (arith, rows_inside t n)))

      byte_seen : (a : ℕ) → byte_at (extents_of tables g) after.memory a ≡ (both before.sight at hits_after ticks_after own).byte a
      unfolding all_written
      byte_seen a =
          ap (λ (s : Sight). s.byte a)
          (seen
          ∙ ap (λ (o : Outcome). all_written before.sight o.writes) wrote
          ∙ ap (λ (s : Sight). all_written s (record { at = at + 8; bytes = word_bytes ticks_after } ∷ [])) (sym (over_written (word_bytes hits_after) before.sight at))
          ∙ sym (over_written (word_bytes ticks_after) (first before.sight at hits_after ticks_after own) (at + 8)))

      counted : (after.answer ≡ Done) × Counted tables memory t after
      counted = (
        mine.0 ∙ ap (λ (o : Outcome). o.answer) wrote,
        record {
          records = records_stay tables memory t;
          hits = number_same _ _ at at 8 (λ j _. byte_seen (at + j)) ∙ first_seen before.sight at hits_after ticks_after own (omega arith);
          ticks = number_same _ _ (at + 8) (at + 8) 8 (λ j _. byte_seen (at + 8 + j)) ∙ second_seen before.sight at hits_after ticks_after own (omega arith);
          others = λ a. ⊎_elim
              (λ h. byte_seen a ∙ below_seen before.sight at hits_after ticks_after own a h)
              (λ h. byte_seen a ∙ past_seen before.sight at hits_after ticks_after own a h);
        },
      )

  unnamed : hit_named t ≡ false → after.answer ≡ Refused EINVAL
  unfolding plant_rule tsb_hit
  unnamed n =
      mine.0
      ∙ rw (lt-ltb t.cpu (plant_at tables g).cpus there.cpu) (go (is_side t.side) (is_context_mark t.context) (is_page_index t.index) n _)
    where
      go : (a b c : Bool) → (a && (b && c)) ≡ false → (x : Ruling Outcome) → (outcome_of before.plant (a or_refuse EINVAL then b or_refuse EINVAL then c or_refuse EINVAL then x)).answer ≡ Refused EINVAL
      go true true true e x = absurd (true≢false e)
      go true true false e x = refl
      go true false c e x = refl
      go false b c e x = refl

pub hits : Hits
hits = record {
  counted = counted;
  uncounted = uncounted;
  unnamed = unnamed;
  records_stay = records_stay;
  rows_inside = rows_inside;
  rows_apart = rows_apart;
}
