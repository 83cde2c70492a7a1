-- 0x42 once its list is read: the listed cpus that the code keeps are those of the rule, and each return is the rule's case.
use Rattle.std.proofs.Common.{Ok, Err}
use mathlib.Core.Path.{◌≡◌, refl, sym, ◌∙◌}
use mathlib.Core.Bool.{Bool, true, false, ◌&&◌, not}
use mathlib.Core.List.{List}
use Prim.Native.Nat.{ℕ, ◌*◌, ◌%◌, ◌≤◌, ◌<◌}
use lib.Dec.{leb, eqb}
use lib.ListN.{length, get_or}
use borrow.Author.Tests.{leb-true, not-true}
use Rattle.rules.specs.declared.Extents.{Extents}
use Rattle.rules.specs.declared.Plant.{Plant}
use Rattle.rules.specs.declared.Refusal.{Refusal}
use Rattle.rules.specs.declared.Refusal.TheVariants.{EWOULDBLOCK}
use Rattle.rules.specs.declared.Answer.TheVariants.{Done, Refused}
use Rattle.rules.specs.Scan.{some_below}
use Rattle.rules.specs.Real.{valid, byte_at, sight_of, bytes_from}
use Rattle.rules.specs.Rulings.{Ruling, Outcome, done}
use Rattle.rules.specs.Mondo.{listed_cpu, listed_cpus, is_caller, is_stranger, send_all, cpu_mondo_send}
use Rattle.rules.proofs.Listed.{listed_at}
use Rattle.rules.proofs.Scan.{none_at, some_same}
use Rattle.rules.proofs.Tests.{and_left, and_right}
use Rattle.memory.specs.Ready.{present}
use Rattle.records.specs.Verdict.{Verdict}
use Rattle.records.specs.Verdict.{verdict_of}
use Rattle.records.proofs.Told.{told_then}
use Rattle.plants.specs.declared.change.Change.{Change}
use Rattle.plants.specs.declared.change.Done.{Done as Gave}
use Rattle.plants.specs.Changes.{with_tails, done_by, changed_by, plant_after}
use Rattle.plants.specs.Follows.{Follows}
use Rattle.plants.specs.Judged.{judged}
use Rattle.mondo.specs.Steps.{mondo_ranges, mondo_cpus, mondo_sent, Sends, sent_by}
use Rattle.plants.proofs.JudgedLaws.{judged_refused, judged_right, judged_told}
use Rattle.plants.proofs.OutcomeLaws.{quiet_refused}

-- the cpus of a list, one by one
module _ (byte : ℕ → ℕ) (list : ℕ) where
  -- the listed cpus cs that were read
  module _ (cs : List ℕ) (count : ℕ) (n : length cs ≡ count) (e : cs ≡ listed_cpus byte list count) where
    read_at : (i : ℕ) → i < count → listed_cpu byte list i ≡ get_or cs i 0
    read_at i h = sym (rw e (listed_at byte list count i h))

    cpus_same : (cpu cpus : ℕ) (rest : Ruling Outcome) → mondo_cpus (listed_cpu byte list) count cpu cpus rest ≡ mondo_cpus (λ i. get_or cs i 0) (length cs) cpu cpus rest
    unfolding mondo_cpus
    cpus_same cpu cpus rest =
        rw (
          n,
          some_same (λ i. is_caller cpu (listed_cpu byte list i)) (λ i. is_caller cpu (get_or cs i 0)) count (λ i h. rw (read_at i h)),
          some_same (λ i. is_stranger cpus (listed_cpu byte list i)) (λ i. is_stranger cpus (get_or cs i 0)) count (λ i h. rw (read_at i h)),
        )

-- no entry is a stranger if the list is right
module _ (cs : List ℕ) (cpu : ℕ) (plant : Plant) (t : Verdict) (f : (rest : Ruling Outcome) → mondo_cpus (λ i. get_or cs i 0) (length cs) cpu plant.cpus rest ≡ judged t rest) (e : t ≡ Ok tt) where
  told : verdict_of (mondo_cpus (λ i. get_or cs i 0) (length cs) cpu plant.cpus (done plant)) ≡ Ok tt
  told = judged_told (mondo_cpus (λ i. get_or cs i 0) (length cs) cpu plant.cpus) t f e _

  others_told : not (some_below (length cs) (λ i. is_caller cpu (get_or cs i 0))) ≡ true
  unfolding mondo_cpus
  others_told = told_then _ _ _ told

  known_told : not (some_below (length cs) (λ i. is_stranger plant.cpus (get_or cs i 0))) ≡ true
  unfolding mondo_cpus
  known_told = told_then _ _ _ (rw others_told at told)

  pub none_strange : (i : ℕ) → i < length cs → is_stranger plant.cpus (get_or cs i 0) ≡ false
  none_strange i h = none_at _ (length cs) i (not-true _ known_told) h

-- the returns once the list is read
module _ (extents : Extents) (plant : Plant) (m cs : List ℕ) (cpu count list at : ℕ) (l : length cs ≡ count) (e : cs ≡ listed_cpus (byte_at (present extents) m) list count)
    (t : Verdict) (f : (rest : Ruling Outcome) → mondo_cpus (λ i. get_or cs i 0) (length cs) cpu plant.cpus rest ≡ judged t rest) where
  abbrev asked : Ruling Outcome → Ruling Outcome
  asked = mondo_cpus (λ i. get_or cs i 0) (length cs) cpu plant.cpus

  pub listed_refused : (r : Refusal) (d : Gave) → t ≡ Err r → d ≡ done_by (Refused r) Change.Nothing → Follows extents plant (mondo_sent (sight_of (present extents) m) plant cpu count list at) m d m
  unfolding mondo_sent
  listed_refused r d h g = quiet_refused extents plant _ m d r g (cpus_same _ list cs count l e _ _ _ ∙ judged_refused asked t f r h _)

  module _ (h : t ≡ Ok tt) (packet : List ℕ) (p : packet ≡ bytes_from (byte_at (present extents) m) at 64) (tails : List ℕ) (all : Bool) (m' : List ℕ)
      (g : Sends extents (send_all plant cs packet list) m (record { plant = with_tails plant tails; all = all }) m') (d : Gave) where
    pub listed_sent : all ≡ true → d ≡ sent_by Done tails → Follows extents plant (mondo_sent (sight_of (present extents) m) plant cpu count list at) m d m'
    unfolding mondo_sent sent_by plant_after changed_by
    listed_sent k n =
        rw (n, cpus_same _ list cs count l e, judged_right asked t f h, ← p, ← e)
        (record { answer = rw (← g.all, k); plant = g.plant; memory = g.memory })

    pub listed_left : all ≡ false → d ≡ sent_by (Refused EWOULDBLOCK) tails → Follows extents plant (mondo_sent (sight_of (present extents) m) plant cpu count list at) m d m'
    unfolding mondo_sent sent_by plant_after changed_by
    listed_left k n =
        rw (n, cpus_same _ list cs count l e, judged_right asked t f h, ← p, ← e)
        (record { answer = rw (← g.all, k); plant = g.plant; memory = g.memory })

-- what is asked before the list is read
module _ (v : ℕ → ℕ → Bool) (plant : Plant) (count list at : ℕ) (t : Verdict) (f : (rest : Ruling Outcome) → mondo_ranges v count list at rest ≡ judged t rest) (e : t ≡ Ok tt) where
  ranges_told : verdict_of (mondo_ranges v count list at (done plant)) ≡ Ok tt
  ranges_told = judged_told (mondo_ranges v count list at) t f e _

  few_told : (leb 1 count && leb count 64) ≡ true
  unfolding mondo_ranges
  few_told = told_then _ _ _ ranges_told

  align_told : (eqb (at % 64) 0 && eqb (list % 2) 0) ≡ true
  unfolding mondo_ranges
  align_told = told_then _ _ _ (rw few_told at ranges_told)

  valid_told : (v at 64 && v list (2 * count)) ≡ true
  unfolding mondo_ranges
  valid_told = told_then _ _ _ (rw (few_told, align_told) at ranges_told)

  pub count_most : count ≤ 64
  count_most = leb-true _ _ (and_right (leb 1 count) _ few_told)

  pub data_valid : v at 64 ≡ true
  data_valid = and_left _ _ valid_told

  pub list_valid : v list (2 * count) ≡ true
  list_valid = and_right (v at 64) _ valid_told

module _ (extents : Extents) (plant : Plant) (m : List ℕ) (cpu count list at : ℕ) (t : Verdict) (f : (rest : Ruling Outcome) → mondo_ranges (valid (present extents)) count list at rest ≡ judged t rest) where
  send_is : cpu_mondo_send (sight_of (present extents) m) plant cpu count list at ≡ mondo_ranges (valid (present extents)) count list at (mondo_sent (sight_of (present extents) m) plant cpu count list at)
  unfolding cpu_mondo_send mondo_ranges mondo_sent mondo_cpus
  send_is = refl

  pub send_refused : (r : Refusal) (d : Gave) → t ≡ Err r → d ≡ done_by (Refused r) Change.Nothing → Follows extents plant (cpu_mondo_send (sight_of (present extents) m) plant cpu count list at) m d m
  send_refused r d h g = quiet_refused extents plant _ m d r g (send_is ∙ judged_refused (mondo_ranges (valid (present extents)) count list at) t f r h _)

  pub send_done : (d : Gave) (m' : List ℕ) → t ≡ Ok tt → Follows extents plant (mondo_sent (sight_of (present extents) m) plant cpu count list at) m d m'
      → Follows extents plant (cpu_mondo_send (sight_of (present extents) m) plant cpu count list at) m d m'
  send_done d m' h g = rw (send_is, judged_right (mondo_ranges (valid (present extents)) count list at) t f h) g
