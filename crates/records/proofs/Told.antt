-- What a verdict tells of the ruling behind it.
use Rattle.std.proofs.Common.{Ok, Err, is_ok}
use mathlib.Core.Path.{◌≡◌, refl}
use mathlib.Core.Bool.{Bool, true, false, false≢true}
use Prim.Native.Nat.{ℕ, ◌*◌, ◌%◌, ◌≤◌}
use lib.Dec.{eqb}
use native.Mathlib.Omega.{arith}
use Rattle.rules.specs.declared.Refusal.{Refusal}
use Rattle.rules.specs.Rulings.{Ruling, refused, granted, accepts, ◌or_refuse◌then◌}
use Rattle.rules.specs.Scan.{power_of_two◌from◌to◌}
use Rattle.rules.specs.Queues.{new_ring}
use Rattle.records.specs.Verdict.{verdict_of}
use Rattle.records.proofs.Powers.{at_least, at_most}

-- a right record is one that the rule accepts
pub accepts_is : {A : Type 0} (x : Ruling A) → accepts x ≡ is_ok (verdict_of x)
unfolding verdict_of
accepts_is (refused r) = refl
accepts_is (granted a) = refl

pub told_refused : {A : Type 0} (x : Ruling A) (r : Refusal) → verdict_of x ≡ Err r → x ≡ refused r
unfolding verdict_of
told_refused (refused s) r e = cc
told_refused (granted a) r e = let z : ◌≡◌ {A = ℕ} 0 1 = cc in absurd (omega arith)

pub told_right : {A : Type 0} (x : Ruling A) → accepts x ≡ true → verdict_of x ≡ Ok tt
unfolding verdict_of
told_right (refused r) e = absurd (false≢true e)
told_right (granted a) e = refl

-- a chain of tests is passed if its verdict is right
pub told_then : {A : Type 0} (t : Bool) (r : Refusal) (x : Ruling A) → verdict_of (t or_refuse r then x) ≡ Ok tt → t ≡ true
unfolding verdict_of
told_then true r x e = refl
told_then false r x e = let z : ◌≡◌ {A = ℕ} 0 1 = cc in absurd (omega arith)

-- a ring that is right is granted as it was asked for
module _ (v : ℕ → ℕ → Bool) (base n : ℕ) (e : verdict_of (new_ring v base n) ≡ Ok tt) where
  size_told : (power_of_two n from 2 to 256) ≡ true
  unfolding new_ring
  size_told = told_then _ _ _ e

  align_told : eqb (base % (64 * n)) 0 ≡ true
  unfolding new_ring
  align_told = told_then _ _ _ (rw size_told at e)

  pub range_told : v base (64 * n) ≡ true
  unfolding new_ring
  range_told = told_then _ _ _ (rw (size_told, align_told) at e)

  pub ring_told : new_ring v base n ≡ granted (record { base = base; size = 64 * n; head = 0; tail = 0 })
  unfolding new_ring
  ring_told = rw (size_told, align_told, range_told)

  pub entries_least : 2 ≤ n
  entries_least = at_least n 2 256 size_told

  pub entries_most : n ≤ 256
  entries_most = at_most n 2 256 size_told
