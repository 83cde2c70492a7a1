-- 0x42's rule at each return of the code, from the tests on the way.
use Rattle.std.proofs.Common.{Some, None, Ok, Err}
use Rattle.std.specs.List.{list_any}
use Rattle.std.proofs.Math.Bool.{or-false, or_assoc}
use mathlib.Core.Path.{◌≡◌, refl, sym, ap, ◌∙◌}
use mathlib.Core.Bool.{Bool, true, false, ◌||◌}
use mathlib.Core.List.{List, [], ◌∷◌, append-nil}
use Prim.Native.Nat.{ℕ, zero, suc, ◌+◌, ◌<◌}
use native.Mathlib.Numerals.{add-one}
use lib.ListN.{length, get_or, set, take}
use lib.Seq.{take-suc-set}
use Rattle.rules.specs.declared.Extents.{Extents}
use Rattle.rules.specs.declared.Plant.{Plant}
use Rattle.rules.specs.declared.QueueRecord.{QueueRecord}
use Rattle.rules.specs.declared.Refusal.TheVariants.{EINVAL, ENOCPU}
use Rattle.rules.specs.Kept.{cpu_at, queue_at, with_queue}
use Rattle.rules.specs.Scan.{some_below}
use Rattle.rules.specs.Real.{apply}
use Rattle.rules.specs.Rulings.{Ruling, Outcome}
use Rattle.rules.specs.Queues.{put_in, put}
use Rattle.rules.specs.Mondo.{listed_cpu, listed_cpus, passed_over, is_caller, is_stranger, send_one}
use Rattle.memory.specs.Cells.{one}
use Rattle.memory.specs.Ready.{present}
use Rattle.memory.proofs.Writes.{apply_append}
use Rattle.plants.specs.Judged.{judged}
use Rattle.plants.specs.Put.{PutsIn}
use Rattle.plants.proofs.PutLaws.{puts_none, puts_some}
use Rattle.mondo.specs.Steps.{mondo_cpus, send_in, Sends}

-- no entry read, and one more
pub read_none : (byte : ℕ → ℕ) (list : ℕ) → [] ≡ listed_cpus byte list 0
unfolding listed_cpus
read_none byte list = refl

pub read_more : (byte : ℕ → ℕ) (list i v : ℕ) (cs : List ℕ) → take i cs ≡ listed_cpus byte list i → i < length cs → v ≡ listed_cpu byte list i → take (i + 1) (set cs i v) ≡ listed_cpus byte list (i + 1)
unfolding listed_cpus
read_more byte list i v cs e h p = rw (add-one, take-suc-set cs i v h, e, p)

-- what is asked of the listed cpus
module _ (listed : ℕ → ℕ) (count cpu cpus : ℕ) (rest : Ruling Outcome) where
  pub cpus_caller : true ≡ some_below count (λ i. is_caller cpu (listed i)) → mondo_cpus listed count cpu cpus rest ≡ judged (Err EINVAL) rest
  unfolding mondo_cpus judged
  cpus_caller p = rw (← p)

  module _ (p : false ≡ some_below count (λ i. is_caller cpu (listed i))) where
    pub cpus_stranger : true ≡ some_below count (λ i. is_stranger cpus (listed i)) → mondo_cpus listed count cpu cpus rest ≡ judged (Err ENOCPU) rest
    unfolding mondo_cpus judged
    cpus_stranger q = rw (← p, ← q)

    pub cpus_right : false ≡ some_below count (λ i. is_stranger cpus (listed i)) → mondo_cpus listed count cpu cpus rest ≡ judged (Ok tt) rest
    unfolding mondo_cpus judged
    cpus_right q = rw (← p, ← q)

-- `any` over a list, as the rule's search of its places: the first place apart
some_front : (p : ℕ → Bool) (n : ℕ) → some_below (suc n) p ≡ (p 0 || some_below n (λ i. p (suc i)))
unfolding some_below
some_front p zero = sym (or-false (p 0))
some_front p (suc n) = ap (λ (t : Bool). t || p (suc n)) (some_front p n) ∙ or_assoc (p 0) (some_below n (λ i. p (suc i))) (p (suc n))

pub any_listed : {A : Type 0} (test : A → Bool) (d : A) (xs : List A) → list_any test xs ≡ some_below (length xs) (λ i. test (get_or xs i d))
unfolding some_below
any_listed test d [] = refl
any_listed test d (x ∷ xs) = ap (λ (t : Bool). test x || t) (any_listed test d xs) ∙ sym (some_front (λ i. test (get_or (x ∷ xs) i d)) (length xs))

-- one ring: the packet is put, and the list marked if it was
module _ (extents : Extents) (held : QueueRecord) (m packet : List ℕ) (mark : ℕ) (m₁ : List ℕ) where
  pub one_left : PutsIn extents (put_in held packet) m None m₁ → PutsIn extents (send_in held packet mark) m None m₁
  unfolding send_in
  one_left f =
      let full : (put_in held packet).room ≡ false = puts_none extents (put_in held packet) m m₁ f in
      record { held = f.held; memory = f.memory ∙ rw (full, append-nil) }

  pub one_sent : (after : QueueRecord) (m₂ : List ℕ) → PutsIn extents (put_in held packet) m (Some after) m₁ → m₂ ≡ apply (present extents) m₁ (one mark (0xff ∷ 0xff ∷ []))
      → PutsIn extents (send_in held packet mark) m (Some after) m₂
  unfolding send_in
  one_sent after m₂ f w =
      let room : (put_in held packet).room ≡ true = (puts_some extents (put_in held packet) m m₁ after f).0 in
      record { held = f.held; memory = w ∙ rw (f.memory, room, apply_append) }

-- an entry that is passed over
pub one_passed : (extents : Extents) (plant : Plant) (cpu : ℕ) (packet : List ℕ) (mark : ℕ) (m : List ℕ) → passed_over cpu ≡ true
    → Sends extents (send_one plant cpu packet mark) m (record { plant = plant; all = true }) m
unfolding send_one apply
one_passed extents plant cpu packet mark m e = rw e (record { plant = refl; all = refl; memory = refl })

-- one cpu: the ring's record, put back; now is that record as the code has it
pub one_plant : (plant : Plant) (cpu : ℕ) → passed_over cpu ≡ false → (now : QueueRecord) → now ≡ queue_at (cpu_at plant cpu) 0 → (packet : List ℕ) (mark : ℕ) (extents : Extents) (m m' : List ℕ)
    → m' ≡ apply (present extents) m (send_in now packet mark).writes
    → Sends extents (send_one plant cpu packet mark) m (record { plant = with_queue plant cpu 0 (send_in now packet mark).held; all = (send_in now packet mark).room }) m'
unfolding send_in send_one put
one_plant plant cpu e now p packet mark extents m m' w = rw e (record { plant = ap (λ (q : QueueRecord). with_queue plant cpu 0 (put_in q packet).held) p; all = ap (λ (q : QueueRecord). (put_in q packet).room) p; memory = rw p at w })
