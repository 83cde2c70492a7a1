-- What a verdict tells of the tests x of a rule, whatever follows them.
use Rattle.std.proofs.Common.{Ok, Err}
use mathlib.Core.Path.{◌≡◌, ◌∙◌}
use Rattle.rules.specs.declared.Refusal.{Refusal}
use Rattle.rules.specs.Rulings.{Ruling, refused, granted}
use Rattle.records.specs.Verdict.{Verdict, verdict_of}
use Rattle.plants.specs.Judged.{judged}

module _ {A : Type 0} (x : Ruling A → Ruling A) (t : Verdict) (f : (rest : Ruling A) → x rest ≡ judged t rest) where
  pub judged_refused : (r : Refusal) → t ≡ Err r → (rest : Ruling A) → x rest ≡ refused r
  unfolding judged
  judged_refused r e rest = f rest ∙ rw e

  pub judged_right : t ≡ Ok tt → (rest : Ruling A) → x rest ≡ rest
  unfolding judged
  judged_right e rest = f rest ∙ rw e

  pub judged_told : t ≡ Ok tt → (a : A) → verdict_of (x (granted a)) ≡ Ok tt
  unfolding verdict_of
  judged_told e a = rw (judged_right e)
