-- What a ruling comes to, by the way a rule reads.
use Rattle.std.specs.Prelude.{if◌then◌else◌, Option, Some, None}
use mathlib.Core.Path.{◌≡◌, refl}
use mathlib.Core.Bool.{Bool, true, false}
use Prim.Native.Nat.{ℕ}
use Rattle.rules.specs.Rulings.{RulingBy, refused, granted, ◌or_refuse◌then◌, ◌refuses◌then◌, ◌grants◌}

-- P holds of the status that the ruling refuses by, or Q of what it grants
abbrev pub Ruled : {R A : Type 0} → (R → Type 0) → (A → Type 0) → RulingBy R A → Type 0
Ruled P Q (refused r) = P r
Ruled P Q (granted a) = Q a

-- where there is nothing to show
abbrev pub Any : {A : Type 0} → A → Type 0
Any a = Unit {0}

module _ {R A : Type 0} (P : R → Type 0) (Q : A → Type 0) where
  pub ruled_then : (t : Bool) (r : R) (x : RulingBy R A) → (t ≡ false → P r) → (t ≡ true → Ruled P Q x) → Ruled P Q (t or_refuse r then x)
  ruled_then true r x p h = h refl
  ruled_then false r x p h = p refl

  pub ruled_scan : (found : Option ℕ) (r : ℕ → R) (x : RulingBy R A) → ((k : ℕ) → found ≡ Some k → P (r k)) → (found ≡ None → Ruled P Q x) → Ruled P Q (found refuses r then x)
  ruled_scan None r x p h = h refl
  ruled_scan (Some k) r x p h = p k refl

  pub ruled_if : (t : Bool) (x y : RulingBy R A) → Ruled P Q x → Ruled P Q y → Ruled P Q (if t then x else y)
  ruled_if true x y h k = h
  ruled_if false x y h k = k

  pub ruled_value : {B : Type 0} (m : RulingBy R B) (k : B → RulingBy R A) → Ruled P Any m → ((b : B) → m ≡ granted b → Ruled P Q (k b)) → Ruled P Q (m grants k)
  ruled_value (refused r) k p h = p
  ruled_value (granted b) k p h = h b refl

  -- of the status itself, and of the value
  pub ruled_refused : (x : RulingBy R A) (r : R) → Ruled P Q x → x ≡ refused r → P r
  ruled_refused x r h e = rw e at h

  pub ruled_granted : (x : RulingBy R A) (a : A) → Ruled P Q x → x ≡ granted a → Q a
  ruled_granted x a h e = rw e at h

-- where a refusal has nothing to show
pub any_refused : {R A : Type 0} (x : RulingBy R A) → Ruled Any Any x
any_refused (refused r) = tt
any_refused (granted a) = tt
