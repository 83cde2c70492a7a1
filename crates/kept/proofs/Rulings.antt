-- Rulings whose record keeps the rules, by the way a rule reads.
use Rattle.std.specs.Prelude.{if◌then◌else◌}
use mathlib.Core.Path.{◌≡◌, refl}
use mathlib.Core.Bool.{Bool, true, false}
use Prim.Native.Nat.{ℕ}
use Rattle.rules.specs.declared.Plant.{Plant}
use Rattle.rules.specs.declared.Refusal.{Refusal}
use Rattle.rules.specs.Rulings.{Ruling, refused, granted, Outcome, outcome_of, ◌or_refuse◌then◌, ◌grants◌}
use Rattle.rules.specs.Tables.{plant_keeps}
use Rattle.kept.proofs.Plants.{Kept, unchanged}

abbrev pub Fine : (ℕ → ℕ → Bool) → Plant → Ruling Outcome → Type 0
Fine v plant x = Kept v plant (outcome_of plant x).plant

module _ (v : ℕ → ℕ → Bool) (plant : Plant) (e : plant_keeps v plant ≡ true) where
  pub fine_refused : (r : Refusal) → Fine v plant (refused r)
  fine_refused r = unchanged v plant e

  pub fine_then : (t : Bool) (r : Refusal) (x : Ruling Outcome) → (t ≡ true → Fine v plant x) → Fine v plant (t or_refuse r then x)
  fine_then true r x f = f refl
  fine_then false r x f = fine_refused r

  pub fine_grants : {A : Type 0} (m : Ruling A) (k : A → Ruling Outcome) → ((a : A) → m ≡ granted a → Fine v plant (k a)) → Fine v plant (m grants k)
  fine_grants (refused r) k f = fine_refused r
  fine_grants (granted a) k f = f a refl

pub fine_if : (v : ℕ → ℕ → Bool) (plant : Plant) (t : Bool) (x y : Ruling Outcome) → (t ≡ true → Fine v plant x) → (t ≡ false → Fine v plant y) → Fine v plant (if t then x else y)
fine_if v plant true x y f g = f refl
fine_if v plant false x y f g = g refl
