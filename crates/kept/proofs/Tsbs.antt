-- TSB lists and the statistics address leave a record that keeps the rules.
use Rattle.std.specs.Prelude.{if◌then◌else◌}
use mathlib.Core.Path.{◌≡◌, refl, ap, ◌∙◌}
use mathlib.Core.Bool.{Bool, true, false, ◌&&◌, not}
use mathlib.Core.List.{List}
use Prim.Native.Nat.{ℕ, zero, suc, ◌+◌, ◌*◌, ◌%◌, ◌≤◌, ◌<◌}
use native.Mathlib.Omega.{arith}
use lib.Dec.{leb, eqb}
use lib.ListN.{length, get_or, set, replicate, length-replicate, length-set}
use lib.Seq.{get_or-set_same, get_or-set_other}
use borrow.Author.Tests.{leb-true, eqb-true, eqb-false}
use Rattle.rules.specs.declared.Plant.{Plant}
use Rattle.rules.specs.declared.Refusal.TheVariants.{EINVAL, EBADALIGN, ENORADDR, EBADPGSZ, EBADTSB}
use Rattle.rules.specs.declared.Tsb.{Tsb}
use Rattle.rules.specs.declared.Tsbs.{Tsbs}
use Rattle.rules.specs.Limits.{tsb_limit}
use Rattle.rules.specs.Kept.{cpu_at, blank_tsb, blank_tsbs, cpu_with_ctx0, with_ctx0, cpu_with_ctxnon0, with_ctxnon0, cpu_with_statistics, with_statistics}
use Rattle.rules.specs.Real.{Sight}
use Rattle.rules.specs.Rulings.{Ruling, refused, granted, accepts, done, ◌or_refuse◌then◌, ◌grants◌}
use Rattle.rules.specs.Scan.{power_of_two◌from◌to◌}
use Rattle.rules.specs.Tsb.{descriptor_at, is_page_index, ◌is_inside◌, is_lowest, judged_tsb, descriptors, new_tsbs, mmu_tsb_ctx0, mmu_tsb_ctxnon0}
use Rattle.rules.specs.Memory.{new_statistics, set_or_clear, mmustat_conf}
use Rattle.rules.specs.Tables.{tsb_blank, tsbs_right, plant_keeps}
use Rattle.rules.proofs.Computing.{computing}
use Rattle.image.proofs.GuestLaws.{grants_tells}
use Rattle.kept.proofs.Accepted.{then_tells, then_rest, granted_same, past_blank, list_right_lem}
use Rattle.kept.proofs.Plants.{Kept, cpu_there, cpu_replaced, with_ctx0_lem, with_ctxnon0_lem, with_statistics_lem}
use Rattle.kept.proofs.Rulings.{Fine, fine_grants}

-- a descriptor that is granted is granted as it is
judged_itself : (v : ℕ → ℕ → Bool) (t r : Tsb) → judged_tsb v t ≡ granted r → t ≡ r
unfolding judged_tsb
judged_itself v t r e =
    let range : Ruling Tsb = v t.base (16 * t.entries) or_refuse ENORADDR then granted t in
    let align : Ruling Tsb = eqb (t.base % (16 * t.entries)) 0 or_refuse EBADALIGN then range in
    let index : Ruling Tsb = (eqb t.context 0 && is_lowest t.mask t.index) or_refuse EINVAL then align in
    let ways : Ruling Tsb = (eqb t.associativity 1 && (power_of_two t.entries from 512 to 1_048_576)) or_refuse EBADTSB then index in
    granted_same t r
    (then_rest (v t.base (16 * t.entries)) ENORADDR (granted t) r
    (then_rest (eqb (t.base % (16 * t.entries)) 0) EBADALIGN range r
    (then_rest (eqb t.context 0 && is_lowest t.mask t.index) EINVAL align r
    (then_rest (eqb t.associativity 1 && (power_of_two t.entries from 512 to 1_048_576)) EBADTSB index r
    (then_rest (is_page_index t.index && (not (eqb t.mask 0) && (t.mask is_inside 0x2b))) EBADPGSZ ways r e)))))

judged_accepts : (v : ℕ → ℕ → Bool) (t r : Tsb) → judged_tsb v t ≡ granted r → accepts (judged_tsb v r) ≡ true
judged_accepts v t r e = rw (← judged_itself v t r e, e)

tsb_blank_lem : tsb_blank blank_tsb ≡ true
unfolding computing
tsb_blank_lem = refl

-- descriptors that are all right, in a list's places
record Filled (v : ℕ → ℕ → Bool) (list : List Tsb) (n : ℕ) : Type 0 where
  long : length list ≡ tsb_limit
  there : (i : ℕ) → i < n → accepts (judged_tsb v (get_or list i blank_tsb)) ≡ true
  past : (i : ℕ) → n ≤ i → tsb_blank (get_or list i blank_tsb) ≡ true

descriptors_filled : (sight : Sight) (pointer n : ℕ) (list : List Tsb) → n ≤ tsb_limit → descriptors sight pointer n ≡ granted list → Filled sight.valid list n
unfolding descriptors
descriptors_filled sight pointer zero list l e =
    rw (← granted_same (replicate tsb_limit blank_tsb) list e)
    (record {
      long = length-replicate tsb_limit blank_tsb;
      there = λ i h. absurd (omega arith);
      past = λ i h. ap tsb_blank (past_blank tsb_limit blank_tsb i) ∙ tsb_blank_lem;
    })
descriptors_filled sight pointer (suc n) list l e =
    let a = grants_tells (descriptors sight pointer n) (λ before. judged_tsb sight.valid (descriptor_at sight.byte (pointer + 32 * n)) grants λ t. granted (set before n t)) list e in
    let b = grants_tells (judged_tsb sight.valid (descriptor_at sight.byte (pointer + 32 * n))) (λ t. granted (set a.0 n t)) list a.1.1 in
    rw (← granted_same (set a.0 n b.0) list b.1.1)
    (more a.0 b.0 (descriptors_filled sight pointer n a.0 (omega arith) a.1.0) (judged_accepts sight.valid (descriptor_at sight.byte (pointer + 32 * n)) b.0 b.1.0))
  where
    more : (before : List Tsb) (t : Tsb) → Filled sight.valid before n → accepts (judged_tsb sight.valid t) ≡ true → Filled sight.valid (set before n t) (suc n)
    more before t f r = record {
      long = simp length-set f.long;
      there = λ i h. at_or_before i h (eqb i n) refl;
      past = λ i h. ap tsb_blank (get_or-set_other before n i t blank_tsb (λ q. omega arith)) ∙ f.past i (omega arith);
    }
      where
        at_or_before : (i : ℕ) → i < suc n → (s : Bool) → eqb i n ≡ s → accepts (judged_tsb sight.valid (get_or (set before n t) i blank_tsb)) ≡ true
        at_or_before i h true q =
            let z : i ≡ n = eqb-true i n q in
            let room : n < length before = omega (arith, f.long) in
            rw (z, get_or-set_same before n t blank_tsb room) r
        at_or_before i h false q =
            rw (get_or-set_other before n i t blank_tsb (eqb-false i n q)) (f.there i (omega (arith, eqb-false i n q)))

no_tsbs : (v : ℕ → ℕ → Bool) → tsbs_right v blank_tsbs ≡ true
unfolding computing
no_tsbs v = refl

new_tsbs_right : (sight : Sight) (ntsb pointer : ℕ) (l : Tsbs) → new_tsbs sight ntsb pointer ≡ granted l → tsbs_right sight.valid l ≡ true
unfolding new_tsbs tsbs_right
new_tsbs_right sight ntsb pointer l e = go (eqb ntsb 0) e
  where
    listed : Ruling Tsbs
    listed = descriptors sight pointer ntsb grants λ list. granted (record { tsbs = ntsb; tsb = list })

    ranged : Ruling Tsbs
    ranged = sight.valid pointer (32 * ntsb) or_refuse ENORADDR then listed

    aligned : Ruling Tsbs
    aligned = eqb (pointer % 8) 0 or_refuse EBADALIGN then ranged

    go : (t : Bool) → (if t then granted blank_tsbs else (leb ntsb tsb_limit or_refuse EINVAL then aligned)) ≡ granted l → tsbs_right sight.valid l ≡ true
    go true q = rw (← granted_same blank_tsbs l q) (no_tsbs sight.valid)
    go false q =
        let few : ntsb ≤ tsb_limit = leb-true ntsb tsb_limit (then_tells (leb ntsb tsb_limit) EINVAL aligned l q) in
        let p : listed ≡ granted l = then_rest (sight.valid pointer (32 * ntsb)) ENORADDR listed l (then_rest (eqb (pointer % 8) 0) EBADALIGN ranged l (then_rest (leb ntsb tsb_limit) EINVAL aligned l q)) in
        let d = grants_tells (descriptors sight pointer ntsb) (λ list. granted (record { tsbs = ntsb; tsb = list })) l p in
        let f : Filled sight.valid d.0 ntsb = descriptors_filled sight pointer ntsb d.0 few d.1.0 in
        rw (← granted_same (record { tsbs = ntsb; tsb = d.0 }) l d.1.1)
        (list_right_lem tsb_limit ntsb (λ i. accepts (judged_tsb sight.valid (get_or d.0 i blank_tsb))) (λ i. tsb_blank (get_or d.0 i blank_tsb)) few f.there (λ i h m. f.past i h))

module _ (sight : Sight) (plant : Plant) (e : plant_keeps sight.valid plant ≡ true) (cpu : ℕ) (there : cpu < plant.cpus) where
  pub ctx0_fine : (ntsb pointer : ℕ) → Fine sight.valid plant (mmu_tsb_ctx0 sight plant cpu ntsb pointer)
  unfolding mmu_tsb_ctx0 with_ctx0
  ctx0_fine ntsb pointer =
      fine_grants sight.valid plant e (new_tsbs sight ntsb pointer) (λ tsbs. done (with_ctx0 plant cpu tsbs)) (λ tsbs g.
      cpu_replaced sight.valid plant e cpu (cpu_with_ctx0 (cpu_at plant cpu) tsbs) there
      (with_ctx0_lem sight.valid (cpu_at plant cpu) (cpu_there sight.valid plant e cpu there) tsbs (new_tsbs_right sight ntsb pointer tsbs g)))

  pub ctxnon0_fine : (ntsb pointer : ℕ) → Fine sight.valid plant (mmu_tsb_ctxnon0 sight plant cpu ntsb pointer)
  unfolding mmu_tsb_ctxnon0 with_ctxnon0
  ctxnon0_fine ntsb pointer =
      fine_grants sight.valid plant e (new_tsbs sight ntsb pointer) (λ tsbs. done (with_ctxnon0 plant cpu tsbs)) (λ tsbs g.
      cpu_replaced sight.valid plant e cpu (cpu_with_ctxnon0 (cpu_at plant cpu) tsbs) there
      (with_ctxnon0_lem sight.valid (cpu_at plant cpu) (cpu_there sight.valid plant e cpu there) tsbs (new_tsbs_right sight ntsb pointer tsbs g)))

-- the statistics address, set or cleared
no_statistics : (v : ℕ → ℕ → Bool) → accepts (new_statistics v 0) ≡ true
unfolding new_statistics
no_statistics v = refl

statistics_itself : (v : ℕ → ℕ → Bool) (address a : ℕ) → new_statistics v address ≡ granted a → address ≡ a
unfolding new_statistics
statistics_itself v address a e = go (eqb address 0) refl e
  where
    range : Ruling ℕ
    range = v address 512 or_refuse ENORADDR then granted address

    go : (t : Bool) → eqb address 0 ≡ t → (if t then granted 0 else (eqb (address % 64) 0 or_refuse EBADALIGN then range)) ≡ granted a → address ≡ a
    go true q p = eqb-true address 0 q ∙ granted_same 0 a p
    go false q p = granted_same address a (then_rest (v address 512) ENORADDR (granted address) a (then_rest (eqb (address % 64) 0) EBADALIGN range a p))

new_statistics_right : (v : ℕ → ℕ → Bool) (address a : ℕ) → new_statistics v address ≡ granted a → accepts (new_statistics v a) ≡ true
new_statistics_right v address a e = rw (← statistics_itself v address a e, e)

pub statistics_fine : (v : ℕ → ℕ → Bool) (plant : Plant) → plant_keeps v plant ≡ true → (cpu : ℕ) → cpu < plant.cpus → (address : ℕ) → Fine v plant (mmustat_conf v plant cpu address)
unfolding mmustat_conf with_statistics
statistics_fine v plant e cpu there address = go (new_statistics v address) refl
  where
    kept : (a : ℕ) → accepts (new_statistics v a) ≡ true → Kept v plant (with_statistics plant cpu a)
    kept a r = cpu_replaced v plant e cpu (cpu_with_statistics (cpu_at plant cpu) a) there (with_statistics_lem v (cpu_at plant cpu) (cpu_there v plant e cpu there) a r)

    go : (x : Ruling ℕ) → new_statistics v address ≡ x → Fine v plant (set_or_clear plant cpu x)
    go (refused r) q = kept 0 (no_statistics v)
    go (granted a) q = kept a (new_statistics_right v address a q)
