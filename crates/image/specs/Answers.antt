-- What reading an image answers: each ruling, as the code gives it.
use Rattle.std.specs.Prelude.{◌≡◌, ℕ, ◌*◌, ◌^◌, ◌<◌, ◌≤◌, List, length, Result, Ok, Err}
use Rattle.rules.specs.declared.ImageRefusal.{ImageRefusal}
use Rattle.rules.specs.Rulings.{refused, granted}
use Rattle.rules.specs.Image.{Reading, Fields}
use Rattle.image.specs.declared.Read.{Read}

-- the bytes have all the bits before bit `end`, which fit the code's numbers
abbrev pub Reaches : List ℕ → ℕ → Type 0
Reaches bytes end = (end < 2 ^ 64) × (end ≤ 8 * length bytes)

-- what a ruling grants, or why it refuses
abbrev pub result_of : {A : Type 0} → Reading A → Result A ImageRefusal
result_of (refused r) = Err r
result_of (granted a) = Ok a

-- the fields as the code gives them
abbrev pub read_of : Fields → Reading Read
read_of fields = granted (record { end = fields.end; tables = fields.tables })

-- each call of a closure gives what `status` does
abbrev pub Gives : (ℕ → ℕ → ImageRefusal → Type 0) → (ℕ → ℕ → ImageRefusal) → Type 0
Gives post status = (g i : ℕ) (r : ImageRefusal) → post g i r → r ≡ status g i

-- each call of a closure at one of the numbers below k gives what f does
abbrev pub Reads : {A : Type 0} → (ℕ → A → Type 0) → ℕ → (ℕ → A) → Type 0
Reads {A} post k f = (i : ℕ) (x : A) → i < k → post i x → x ≡ f i
