-- The queue calls, mondos among them, leave a record that keeps the rules.
use Rattle.std.specs.Prelude.{if◌then◌else◌}
use mathlib.Core.Path.{◌≡◌, refl}
use mathlib.Core.Bool.{Bool, true, false, ◌&&◌, not}
use mathlib.Core.List.{List, [], ◌∷◌}
use Prim.Native.Nat.{ℕ, ◌+◌, ◌*◌, ◌%◌, ◌<◌}
use native.Mathlib.Omega.{arith}
use lib.Dec.{leb, ltb, eqb}
use borrow.Author.Tests.{leb-true, leb-false, ltb-true, eqb-true, not-true}
use Rattle.rules.specs.declared.Plant.{Plant}
use Rattle.rules.specs.declared.QueueRecord.{QueueRecord}
use Rattle.rules.specs.declared.Refusal.TheVariants.{EINVAL, EBADALIGN, ENORADDR, ENOCPU}
use Rattle.rules.specs.declared.Ring.{Ring}
use Rattle.rules.specs.Limits.{queue_limit}
use Rattle.rules.specs.Scan.{some_below}
use Rattle.rules.specs.Kept.{cpu_at, queue_at, cpu_with_queue, with_queue, with_head}
use Rattle.rules.specs.Real.{Sight, bytes_from}
use Rattle.rules.specs.Rulings.{Ruling, granted, Outcome, done, ◌or_refuse◌then◌, ◌grants◌}
use Rattle.rules.specs.Queues.{is_queue, index_of, new_ring, put_in, put, forward, ring_of, cpu_qconf, write_head}
use Rattle.rules.specs.Mondo.{listed_cpu, listed_cpus, passed_over, is_caller, is_stranger, send_one, send_all, sent_as, cpu_mondo_send}
use Rattle.rules.specs.Tables.{record_right, ring_right, plant_keeps}
use Rattle.rules.proofs.Listed.{Each, listed_each}
use Rattle.rules.proofs.Scan.{none_at}
use Rattle.rules.proofs.Tests.{and_left, and_right}
use Rattle.kept.proofs.Plants.{Kept, unchanged, further, cpu_there, cpu_replaced, queue_right, with_queue_lem}
use Rattle.kept.proofs.Rings.{new_ring_right, head_right, put_right}
use Rattle.kept.proofs.Rulings.{Fine, fine_then, fine_grants, fine_if}

module _ (v : ℕ → ℕ → Bool) (plant : Plant) (e : plant_keeps v plant ≡ true) (cpu : ℕ) (there : cpu < plant.cpus) where
  -- a queue's record replaced
  pub queue_kept : (q : ℕ) (held : QueueRecord) → record_right v held ≡ true → Kept v plant (with_queue plant cpu q held)
  unfolding with_queue
  queue_kept q held r = cpu_replaced v plant e cpu (cpu_with_queue (cpu_at plant cpu) q held) there (with_queue_lem v (cpu_at plant cpu) (cpu_there v plant e cpu there) q held r)

  -- a ring that is there is right
  ring_there : (q : ℕ) (ring : Ring) → q < queue_limit → queue_at (cpu_at plant cpu) q ≡ QueueRecord.Set ring → ring_right v ring ≡ true
  ring_there q ring h p = rw p at (queue_right v (cpu_at plant cpu) (cpu_there v plant e cpu there) q h)

  pub qconf_fine : (queue base n : ℕ) → Fine v plant (cpu_qconf v plant cpu queue base n)
  unfolding cpu_qconf
  qconf_fine queue base n =
      fine_then v plant e (is_queue queue) EINVAL
      (if eqb n 0 then done (with_queue plant cpu (index_of queue) QueueRecord.Unset) else (new_ring v base n grants λ ring. done (with_queue plant cpu (index_of queue) (QueueRecord.Set ring))))
      (λ _. fine_if v plant (eqb n 0) (done (with_queue plant cpu (index_of queue) QueueRecord.Unset)) (new_ring v base n grants λ ring. done (with_queue plant cpu (index_of queue) (QueueRecord.Set ring)))
      (λ _. queue_kept (index_of queue) QueueRecord.Unset refl)
      (λ _. fine_grants v plant e (new_ring v base n) (λ ring. done (with_queue plant cpu (index_of queue) (QueueRecord.Set ring)))
      (λ ring g. queue_kept (index_of queue) (QueueRecord.Set ring) (new_ring_right v base n ring g))))

  index_below : (queue : ℕ) → is_queue queue ≡ true → index_of queue < queue_limit
  index_below queue h = omega (arith, leb-true queue 0x3f (and_right (leb 0x3c queue) (leb queue 0x3f) h), leb-true 0x3c queue (and_left (leb 0x3c queue) (leb queue 0x3f) h))

  ring_of_lem : (held : QueueRecord) (ring : Ring) → ring_of held ≡ granted ring → held ≡ QueueRecord.Set ring
  ring_of_lem QueueRecord.Unset ring p = let z : ◌≡◌ {A = ℕ} 0 1 = cc in absurd (omega arith)
  ring_of_lem (QueueRecord.Set r) ring p = cc

  pub head_fine : (queue value : ℕ) → Fine v plant (write_head plant cpu queue value)
  unfolding write_head
  head_fine queue value =
      fine_then v plant e (is_queue queue) EINVAL (ring_of (queue_at (cpu_at plant cpu) (index_of queue)) grants λ ring. moves ring) (λ h.
      fine_grants v plant e (ring_of (queue_at (cpu_at plant cpu) (index_of queue))) moves (λ ring g.
      fine_then v plant e (eqb (value % 64) 0) EBADALIGN ((ltb value ring.size && leb (forward ring value) (forward ring ring.tail)) or_refuse EINVAL then moved ring) (λ m.
      fine_then v plant e (ltb value ring.size && leb (forward ring value) (forward ring ring.tail)) EINVAL (moved ring) (λ l.
      queue_kept (index_of queue) (QueueRecord.Set (with_head ring value))
      (head_right v ring (ring_there (index_of queue) ring (index_below queue h) (ring_of_lem (queue_at (cpu_at plant cpu) (index_of queue)) ring g)) value (eqb-true (value % 64) 0 m) (ltb-true value ring.size (and_left (ltb value ring.size) _ l)))))))
    where
      moved : Ring → Ruling Outcome
      moved ring = done (with_queue plant cpu (index_of queue) (QueueRecord.Set (with_head ring value)))

      moves : Ring → Ruling Outcome
      moves ring =
          eqb (value % 64) 0 or_refuse EBADALIGN then
          (ltb value ring.size && leb (forward ring value) (forward ring ring.tail)) or_refuse EINVAL then
          moved ring

  -- an entry that is put
  pub put_kept : (queue : ℕ) (entry : List ℕ) → index_of queue < queue_limit → Kept v plant (put plant cpu queue entry).plant
  unfolding put
  put_kept queue entry h =
      let held : QueueRecord = queue_at (cpu_at plant cpu) (index_of queue) in
      queue_kept (index_of queue) (put_in held entry).held (put_right v held entry (queue_right v (cpu_at plant cpu) (cpu_there v plant e cpu there) (index_of queue) h))

-- one entry of a mondo's list
send_one_lem : (v : ℕ → ℕ → Bool) (plant : Plant) → plant_keeps v plant ≡ true → (cpu : ℕ) → is_stranger plant.cpus cpu ≡ false → (packet : List ℕ) (mark : ℕ) → Kept v plant (send_one plant cpu packet mark).plant
unfolding send_one
send_one_lem v plant e cpu known packet mark = go (passed_over cpu) refl
  where
    go : (t : Bool) → passed_over cpu ≡ t → Kept v plant (send_one plant cpu packet mark).plant
    go true q = rw q (unchanged v plant e)
    go false q = rw q (put_kept v plant e cpu (leb-false plant.cpus cpu (rw q at known)) 0x3c packet (omega arith))

-- an entry is no stranger to a guest of n cpus
abbrev Known : ℕ → ℕ → Type 0
Known n listed = is_stranger n listed ≡ false

send_all_lem : (v : ℕ → ℕ → Bool) (plant : Plant) → plant_keeps v plant ≡ true → (cpus packet : List ℕ) (mark : ℕ) → Each (Known plant.cpus) cpus → Kept v plant (send_all plant cpus packet mark).plant
unfolding send_all
send_all_lem v plant e [] packet mark b = unchanged v plant e
send_all_lem v plant e (c ∷ cs) packet mark b =
    let one : Kept v plant (send_one plant c packet mark).plant = send_one_lem v plant e c b.0 packet mark in
    further v plant (send_one plant c packet mark).plant (send_all (send_one plant c packet mark).plant cs packet (mark + 2)).plant one
    (send_all_lem v (send_one plant c packet mark).plant one.keeps cs packet (mark + 2) (rw one.cpus b.1))

pub mondo_fine : (sight : Sight) (plant : Plant) → plant_keeps sight.valid plant ≡ true → (cpu count list at : ℕ) → Fine sight.valid plant (cpu_mondo_send sight plant cpu count list at)
unfolding cpu_mondo_send
mondo_fine sight plant e cpu count list at =
    let v = sight.valid in
    let last : Ruling Outcome = granted (sent_as (send_all plant (listed_cpus sight.byte list count) (bytes_from sight.byte at 64) list)) in
    let strange : Bool = some_below count (λ i. is_stranger plant.cpus (listed_cpu sight.byte list i)) in
    let caller : Bool = not (some_below count (λ i. is_caller cpu (listed_cpu sight.byte list i))) in
    let ranges : Bool = sight.valid at 64 && sight.valid list (2 * count) in
    let aligned : Bool = eqb (at % 64) 0 && eqb (list % 2) 0 in
    fine_then v plant e (leb 1 count && leb count 64) EINVAL (aligned or_refuse EBADALIGN then ranges or_refuse ENORADDR then caller or_refuse EINVAL then not strange or_refuse ENOCPU then last) (λ _.
    fine_then v plant e aligned EBADALIGN (ranges or_refuse ENORADDR then caller or_refuse EINVAL then not strange or_refuse ENOCPU then last) (λ _.
    fine_then v plant e ranges ENORADDR (caller or_refuse EINVAL then not strange or_refuse ENOCPU then last) (λ _.
    fine_then v plant e caller EINVAL (not strange or_refuse ENOCPU then last) (λ _.
    fine_then v plant e (not strange) ENOCPU last (λ h.
    send_all_lem v plant e (listed_cpus sight.byte list count) (bytes_from sight.byte at 64) list
    (listed_each sight.byte list (Known plant.cpus) count (λ i l. none_at (λ i. is_stranger plant.cpus (listed_cpu sight.byte list i)) count i (not-true strange h) l)))))))
