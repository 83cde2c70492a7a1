-- What a range of pages and a word that were judged right tell of memory.
use mathlib.Core.Path.{◌≡◌}
use mathlib.Core.Bool.{true, ◌&&◌, not}
use Prim.Native.Nat.{ℕ, ◌+◌, ◌%◌, min}
use native.Mathlib.Omega.{arith}
use native.Mathlib.Nat.{add-zero}
use lib.Dec.{eqb}
use Rattle.std.proofs.Common.{Ok}
use Rattle.rules.specs.declared.Extents.{Extents}
use Rattle.rules.specs.Kept.{blank_guest}
use Rattle.rules.specs.Real.{valid}
use Rattle.rules.specs.Rulings.{Ruling, Outcome, done}
use Rattle.rules.specs.Memory.{whole_pages, whole_word}
use Rattle.memory.specs.Ready.{present}
use Rattle.memory.proofs.Places.{valid_part}
use Rattle.records.specs.Verdict.{Verdict, verdict_of}
use Rattle.records.proofs.Told.{told_then}
use Rattle.plants.specs.Judged.{judged}
use Rattle.plants.proofs.JudgedLaws.{judged_told}

-- what a verdict tells of a range or an address is no matter of what follows it
abbrev any : Ruling Outcome
any = done blank_guest.plant

module _ (extents : Extents) (a n : ℕ) (t : Verdict) (f : (rest : Ruling Outcome) → whole_pages (valid (present extents)) a n rest ≡ judged t rest) (e : t ≡ Ok tt) where
  told : verdict_of (whole_pages (valid (present extents)) a n any) ≡ Ok tt
  told = judged_told (whole_pages (valid (present extents)) a n) t f e _

  some_told : not (eqb n 0) ≡ true
  unfolding whole_pages
  some_told = told_then _ _ _ told

  align_told : (eqb (a % 8192) 0 && eqb (n % 8192) 0) ≡ true
  unfolding whole_pages
  align_told = told_then _ _ _ (rw some_told at told)

  range_told : valid (present extents) a n ≡ true
  unfolding whole_pages
  range_told = told_then _ _ _ (rw (some_told, align_told) at told)

  -- the first bytes of a range that is right
  pub scrub_first : (k : ℕ) → k ≡ min n 32768 → valid (present extents) a k ≡ true
  scrub_first k h =
      let p : valid (present extents) (a + 0) k ≡ true = valid_part (present extents) a n 0 k range_told (omega arith) in
      rw add-zero at p

module _ (extents : Extents) (a : ℕ) (t : Verdict) (f : (rest : Ruling Outcome) → whole_word (valid (present extents)) a rest ≡ judged t rest) (e : t ≡ Ok tt) where
  word_told : verdict_of (whole_word (valid (present extents)) a any) ≡ Ok tt
  word_told = judged_told (whole_word (valid (present extents)) a) t f e _

  place_told : eqb (a % 8) 0 ≡ true
  unfolding whole_word
  place_told = told_then _ _ _ word_told

  pub word_valid : valid (present extents) a 8 ≡ true
  unfolding whole_word
  word_valid = told_then _ _ _ (rw place_told at word_told)
