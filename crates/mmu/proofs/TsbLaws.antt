-- The rules of TSB lists at each return of the code, from the tests on the way.
use Rattle.std.proofs.Common.{Result, Ok, Err}
use mathlib.Core.Path.{◌≡◌, refl, sym, ◌∙◌}
use mathlib.Core.Bool.{Bool, true, ◌&&◌, not}
use mathlib.Core.List.{List}
use mathlib.Core.Logic.{⊎_elim}
use Prim.Native.Nat.{ℕ, zero, suc, ◌+◌, ◌*◌, ◌%◌, ◌≤◌, ◌<◌}
use native.Mathlib.Nat.{eq-or-lt_of_le}
use native.Mathlib.Numerals.{add-one}
use native.Mathlib.Omega.{arith}
use lib.Dec.{eqb}
use lib.ListN.{set, replicate}
use Rattle.rules.specs.declared.Answer.TheVariants.{Done, Refused}
use Rattle.rules.specs.declared.Extents.{Extents}
use Rattle.rules.specs.declared.Plant.{Plant}
use Rattle.rules.specs.declared.Refusal.{Refusal}
use Rattle.rules.specs.declared.Tsb.{Tsb}
use Rattle.rules.specs.declared.Tsbs.{Tsbs}
use Rattle.rules.specs.Limits.{cpu_limit}
use Rattle.rules.specs.Kept.{blank_tsbs}
use Rattle.rules.specs.Real.{Sight, sight_of, number_of}
use Rattle.rules.specs.Rulings.{Ruling, refused, granted, ◌grants◌, done}
use Rattle.rules.specs.Scan.{power_of_two◌from◌to◌}
use Rattle.rules.specs.Tsb.{descriptor_at, is_page_index, ◌is_inside◌, is_lowest, judged_tsb, descriptors, new_tsbs}
use Rattle.memory.specs.Ready.{present}
use Rattle.records.specs.Verdict.{Verdict, verdict_of}
use Rattle.records.proofs.Told.{told_refused, told_then}
use Rattle.plants.specs.declared.change.Change.{Change}
use Rattle.plants.specs.declared.change.Done.{Done as Gave}
use Rattle.plants.specs.Changes.{done_by, changed_by, plant_after}
use Rattle.plants.specs.Follows.{Follows}
use Rattle.plants.proofs.OutcomeLaws.{quiet, quiet_refused}
use Rattle.mmu.specs.Lists.{listed, ruled, set_tsbs}

-- a descriptor that is right is granted as it was read
module _ (v : ℕ → ℕ → Bool) (t : Tsb) (e : verdict_of (judged_tsb v t) ≡ Ok tt) where
  sizes_told : (is_page_index t.index && (not (eqb t.mask 0) && (t.mask is_inside 0x2b))) ≡ true
  unfolding judged_tsb
  sizes_told = told_then _ _ _ e

  entries_told : (eqb t.associativity 1 && (power_of_two t.entries from 512 to 1_048_576)) ≡ true
  unfolding judged_tsb
  entries_told = told_then _ _ _ (rw sizes_told at e)

  lowest_told : (eqb t.context 0 && is_lowest t.mask t.index) ≡ true
  unfolding judged_tsb
  lowest_told = told_then _ _ _ (rw (sizes_told, entries_told) at e)

  align_told : eqb (t.base % (16 * t.entries)) 0 ≡ true
  unfolding judged_tsb
  align_told = told_then _ _ _ (rw (sizes_told, entries_told, lowest_told) at e)

  range_told : v t.base (16 * t.entries) ≡ true
  unfolding judged_tsb
  range_told = told_then _ _ _ (rw (sizes_told, entries_told, lowest_told, align_told) at e)

  tsb_granted : judged_tsb v t ≡ granted t
  unfolding judged_tsb
  tsb_granted = rw (sizes_told, entries_told, lowest_told, align_told, range_told)

-- the descriptor, by its fields
pub descriptor_read : (byte : ℕ → ℕ) (at i a n c k b : ℕ) → i ≡ number_of byte at 2 → a ≡ number_of byte (at + 2) 2 → n ≡ number_of byte (at + 4) 4 → c ≡ number_of byte (at + 8) 4
    → k ≡ number_of byte (at + 12) 4 → b ≡ number_of byte (at + 16) 8 → record { index = i; associativity = a; entries = n; context = c; mask = k; base = b } ≡ descriptor_at byte at
unfolding descriptor_at
descriptor_read byte at i a n c k b e f g h p q = rw (e, f, g, h, p, q)

-- the descriptors from the pointer on
module _ (s : Sight) (pointer : ℕ) where
  pub listed_none : descriptors s pointer 0 ≡ granted blank_tsbs.tsb
  unfolding descriptors
  listed_none = refl

  -- a refusal stays
  refused_on : (r : Refusal) (i n : ℕ) → descriptors s pointer i ≡ refused r → i ≤ n → descriptors s pointer n ≡ refused r
  unfolding descriptors
  refused_on r i zero e h = let z : i ≡ 0 = omega arith in rw z at e
  refused_on r i (suc n) e h =
      ⊎_elim
      (λ q. rw q at e)
      (λ l.
      let k : i ≤ n = omega arith in
      rw (refused_on r i n e k))
      (eq-or-lt_of_le h)

  module _ (i : ℕ) (list : List Tsb) (e : descriptors s pointer i ≡ granted list) (t : Tsb) (p : t ≡ descriptor_at s.byte (pointer + 32 * i)) (u : Verdict) (q : u ≡ verdict_of (judged_tsb s.valid t)) where
    pub listed_more : u ≡ Ok tt → descriptors s pointer (i + 1) ≡ granted (set list i t)
    unfolding descriptors
    listed_more w = rw (add-one, e, ← p, tsb_granted s.valid t (sym q ∙ w))

    pub listed_stops : (n : ℕ) (x : Refusal) → u ≡ Err x → i < n → listed s pointer n ≡ ruled (Err x)
    unfolding listed descriptors ruled
    listed_stops n x w l = rw (refused_on x (suc i) n stop l)
      where
        stop : descriptors s pointer (suc i) ≡ refused x
        stop = rw (e, ← p, told_refused (judged_tsb s.valid t) x (sym q ∙ w))

  pub listed_all : (i n : ℕ) (list : List Tsb) → descriptors s pointer i ≡ granted list → i ≡ n → listed s pointer n ≡ ruled (Ok (record { tsbs = n; tsb = list }))
  unfolding listed ruled
  listed_all i n list e q = rw (← q, e)

module _ (extents : Extents) (plant : Plant) (m : List ℕ) (ntsb pointer : ℕ) (change : Change) (d : Gave) where
  -- by what the list came to
  pub set_refused : (r : Result Tsbs Refusal) (x : Refusal) → new_tsbs (sight_of (present extents) m) ntsb pointer ≡ ruled r → r ≡ Err x → d ≡ done_by (Refused x) Change.Nothing
      → Follows extents plant (set_tsbs (sight_of (present extents) m) plant ntsb pointer change) m d m
  unfolding set_tsbs ruled
  set_refused r x f e g = quiet_refused extents plant _ m d x g (rw (f, e))

  pub set_right : (r : Result Tsbs Refusal) (l : Tsbs) → new_tsbs (sight_of (present extents) m) ntsb pointer ≡ ruled r → r ≡ Ok l
      → d ≡ record { answer = Done; change = change; tsbs = l; tails = replicate cpu_limit 0 }
      → Follows extents plant (set_tsbs (sight_of (present extents) m) plant ntsb pointer change) m d m
  unfolding set_tsbs ruled plant_after
  set_right r l f e g = quiet extents plant _ m d (rw (f, e, g))

  -- w is what the rule makes of the record
  pub set_by : (w : Tsbs → Plant) → ((tsbs : Tsbs) → changed_by plant tsbs (replicate cpu_limit 0) change ≡ w tsbs) → Follows extents plant (set_tsbs (sight_of (present extents) m) plant ntsb pointer change) m d m
      → Follows extents plant (new_tsbs (sight_of (present extents) m) ntsb pointer grants λ tsbs. done (w tsbs)) m d m
  unfolding set_tsbs
  set_by w f h = go (new_tsbs (sight_of (present extents) m) ntsb pointer) h
    where
      go : (x : Ruling Tsbs) → Follows extents plant (x grants λ tsbs. done (changed_by plant tsbs (replicate cpu_limit 0) change)) m d m → Follows extents plant (x grants λ tsbs. done (w tsbs)) m d m
      go (refused r) h = h
      go (granted l) h = rw (f l) at h
