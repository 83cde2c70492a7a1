-- The loop that sends: what is left of the list, from i on, makes of the record and the memory as they are there what the
-- whole list makes of those at the start.
use mathlib.Core.Path.{◌≡◌, refl, sym, ◌∙◌}
use mathlib.Core.Bool.{Bool, true, false, ◌&&◌, and-true}
use mathlib.Core.List.{List, [], ◌++◌}
use Prim.Native.Nat.{ℕ, ◌+◌, ◌*◌, ◌≤◌, ◌<◌}
use native.Mathlib.Numerals.{add-one}
use native.Mathlib.Omega.{arith}
use lib.ListN.{length, get_or, drop, drop_of_length-le}
use lib.Seq.{drop-cons}
use borrow.Author.Tests.{leb-false}
use Rattle.rules.specs.declared.Extents.{Extents}
use Rattle.rules.specs.declared.Plant.{Plant}
use Rattle.rules.specs.declared.Queue.{Queue}
use Rattle.rules.specs.Kept.{cpu_at, queue_at, with_queue}
use Rattle.rules.specs.Real.{apply}
use Rattle.rules.specs.Queues.{put}
use Rattle.rules.specs.Mondo.{passed_over, is_stranger, Sent, send_one, send_all}
use Rattle.memory.specs.Ready.{present}
use Rattle.memory.proofs.Writes.{apply_append}
use Rattle.records.specs.Sound.{Sound}
use Rattle.plants.proofs.SoundAfter.{queue_replaced, put_sound}
use Rattle.mondo.specs.Steps.{Told, Sends, rings_of}
use Rattle.mondo.proofs.MondoLaws.{one_passed}

-- an entry that is not passed over, and no stranger, is a cpuid
pub other_below : (cpus listed : ℕ) → is_stranger cpus listed ≡ false → passed_over listed ≡ false → listed < cpus
other_below cpus listed a o = leb-false cpus listed (rw o at a)

-- so it has a place among the cpus; t is what the code's test came to
pub index_below : (cpus i : ℕ) (cs : List ℕ) (t : Bool) → cpus ≤ 8 → ((j : ℕ) → j < length cs → is_stranger cpus (get_or cs j 0) ≡ false) → i < length cs → t ≡ passed_over (get_or cs i 0) → t ≡ false
    → get_or cs i 0 < 8
index_below cpus i cs t n a h p e = omega (arith, other_below cpus (get_or cs i 0) (a i h) (sym p ∙ e))

-- the loop reads no plant, and sends for any whose rings are those that were read and whose cpus are those listed
pub record Owns (extents : Extents) (n : ℕ) (cs : List ℕ) (rings : List Queue) (plant : Plant) : Type 0 where
  pub sound : Sound extents plant n
  pub known : (i : ℕ) → i < length cs → is_stranger plant.cpus (get_or cs i 0) ≡ false
  pub own : rings ≡ rings_of plant

-- what one step keeps
pub record Keeps (extents : Extents) (n cpus : ℕ) (plant : Plant) : Type 0 where
  pub sound : Sound extents plant n
  pub same : plant.cpus ≡ cpus

one_keeps : (extents : Extents) (plant : Plant) (n cpu : ℕ) (packet : List ℕ) (mark : ℕ) → Sound extents plant n → is_stranger plant.cpus cpu ≡ false
    → Keeps extents n plant.cpus (send_one plant cpu packet mark).plant
unfolding send_one put with_queue
one_keeps extents plant n cpu packet mark s a = go (passed_over cpu) refl
  where
    go : (t : Bool) → passed_over cpu ≡ t → Keeps extents n plant.cpus (send_one plant cpu packet mark).plant
    go true e = rw e (record { sound = s; same = refl })
    go false e =
        let b : cpu < plant.cpus = other_below plant.cpus cpu a e in
        rw e (record { sound = queue_replaced extents plant n cpu 0 _ s b (put_sound _ (queue_at (cpu_at plant cpu) 0) packet (s.rings cpu 0 b (omega arith))); same = refl })

and_assoc : (a b c : Bool) → (a && (b && c)) ≡ ((a && b) && c)
and_assoc true b c = refl
and_assoc false b c = refl

module _ (extents : Extents) (plant₀ : Plant) (m₀ cs packet : List ℕ) (list : ℕ) where
  -- what is left of the list
  abbrev rest : Plant → ℕ → Sent
  rest plant i = send_all plant (drop i cs) packet (list + 2 * i)

  abbrev whole : Sent
  whole = send_all plant₀ cs packet list

  pub record Sending (plant : Plant) (m : List ℕ) (all : Bool) (i : ℕ) : Type 0 where
    pub kept : Keeps extents (length m) plant₀.cpus plant
    pub plant_is : whole.plant ≡ (rest plant i).plant
    pub all_is : whole.all ≡ (all && (rest plant i).all)
    pub memory_is : apply (present extents) m₀ whole.writes ≡ apply (present extents) m (rest plant i).writes

  pub sending_none : Sound extents plant₀ (length m₀) → Sending plant₀ m₀ true 0
  sending_none s =
      let e : list + 2 * 0 ≡ list = omega arith in
      record { kept = record { sound = s; same = refl }; plant_is = rw e refl; all_is = rw e refl; memory_is = rw e refl }

  pub sending_more : (plant : Plant) (m : List ℕ) (all : Bool) (i : ℕ) (r : Told) (m' : List ℕ) → Sending plant m all i → i < length cs → is_stranger plant₀.cpus (get_or cs i 0) ≡ false
      → Sends extents (send_one plant (get_or cs i 0) packet (list + 2 * i)) m r m' → length m' ≡ length m → Sending r.plant m' (all && r.all) (i + 1)
  unfolding send_all
  sending_more plant m all i r m' s h a f n =
      let o : Sent = send_one plant (get_or cs i 0) packet (list + 2 * i) in
      let t : Sent = rest r.plant (i + 1) in
      let k : Keeps extents (length m) plant.cpus o.plant = one_keeps extents plant (length m) (get_or cs i 0) packet (list + 2 * i) s.kept.sound (rw s.kept.same a) in
      let e : list + 2 * (i + 1) ≡ list + 2 * i + 2 = omega arith in
      let key : rest plant i ≡ record { plant = t.plant; all = o.all && t.all; writes = o.writes ++ t.writes } = rw (drop-cons cs i 0 h, f.plant, e, add-one i) in
      record {
        kept = record { sound = rw (n, f.plant) k.sound; same = rw f.plant (k.same ∙ s.kept.same) };
        plant_is = s.plant_is ∙ rw key refl;
        all_is = s.all_is ∙ rw key (and_assoc all o.all t.all ∙ rw f.all refl);
        memory_is = s.memory_is ∙ rw key (apply_append (present extents) o.writes t.writes m ∙ rw f.memory refl);
      }

  -- an entry that is passed over changes nothing
  pub sending_passed : (plant : Plant) (m : List ℕ) (all : Bool) (i : ℕ) (t : Bool) → Sending plant m all i → i < length cs → t ≡ passed_over (get_or cs i 0) → t ≡ true
      → Sending plant m all (i + 1)
  sending_passed plant m all i t s h p e =
      let o : passed_over (get_or cs i 0) ≡ true = sym p ∙ e in
      rw (← and-true all) (sending_more plant m all i (record { plant = plant; all = true }) m s h (rw o refl) (one_passed extents plant (get_or cs i 0) packet (list + 2 * i) m o) refl)

  pub sending_done : (plant : Plant) (m : List ℕ) (all : Bool) (i : ℕ) → Sending plant m all i → length cs ≤ i → Sends extents whole m₀ (record { plant = plant; all = all }) m
  unfolding send_all apply
  sending_done plant m all i s h =
      let d : drop i cs ≡ [] = drop_of_length-le cs h in
      record {
        plant = sym (s.plant_is ∙ rw d refl);
        all = sym (s.all_is ∙ rw d (and-true all));
        memory = sym (s.memory_is ∙ rw d refl);
      }
