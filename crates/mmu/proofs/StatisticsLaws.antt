-- The rule of the statistics address at each return of the code: t is what the address was judged to be, own the cpu's record.
use Rattle.std.proofs.Common.{Ok, Err}
use mathlib.Core.Path.{◌≡◌, refl, sym, ◌∙◌}
use mathlib.Core.Bool.{Bool, true, false}
use Prim.Native.Nat.{ℕ, ◌%◌}
use lib.Dec.{eqb}
use borrow.Author.Tests.{eqb-true}
use Rattle.rules.specs.declared.Cpu.{Cpu}
use Rattle.rules.specs.declared.Plant.{Plant}
use Rattle.rules.specs.declared.Refusal.{Refusal}
use Rattle.rules.specs.declared.Answer.TheVariants.{One, Refused}
use Rattle.rules.specs.Kept.{cpu_at, with_statistics}
use Rattle.rules.specs.Rulings.{granted, says}
use Rattle.rules.specs.Memory.{new_statistics, mmustat_conf}
use Rattle.records.specs.Verdict.{Verdict, verdict_of}
use Rattle.records.proofs.Told.{told_refused, told_then}

-- an address that is right is granted as it was asked for
module _ (v : ℕ → ℕ → Bool) (a : ℕ) (e : verdict_of (new_statistics v a) ≡ Ok tt) where
  some_told : eqb a 0 ≡ false → new_statistics v a ≡ granted a
  unfolding new_statistics
  some_told z =
      let b : eqb (a % 64) 0 ≡ true = told_then _ _ _ (rw z at e) in
      let c : v a 512 ≡ true = told_then _ _ _ (rw (z, b) at e) in
      rw (z, b, c)

  none_told : eqb a 0 ≡ true → new_statistics v a ≡ granted a
  unfolding new_statistics
  none_told z = rw (eqb-true a 0 z)

  statistics_told : new_statistics v a ≡ granted a
  statistics_told = go (eqb a 0) refl
    where
      go : (t : Bool) → eqb a 0 ≡ t → new_statistics v a ≡ granted a
      go true z = none_told z
      go false z = some_told z

module _ (v : ℕ → ℕ → Bool) (plant : Plant) (cpu address : ℕ) (t : Verdict) (p : t ≡ verdict_of (new_statistics v address)) where
  -- this refusal changes the record
  pub conf_refused : (r : Refusal) → t ≡ Err r → mmustat_conf v plant cpu address ≡ says (Refused r) (with_statistics plant cpu 0)
  unfolding mmustat_conf
  conf_refused r e = rw (told_refused _ r (sym p ∙ e))

  pub conf_set : (own : Cpu) → cpu_at plant cpu ≡ own → t ≡ Ok tt → mmustat_conf v plant cpu address ≡ says (One own.statistics) (with_statistics plant cpu address)
  unfolding mmustat_conf
  conf_set own o e = rw (statistics_told v address (sym p ∙ e), o)
