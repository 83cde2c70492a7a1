-- How a rule reads. Refusals stand one under another in the paper's order; what stands last happens if none of them does.
--
-- The words of the language, for a reader who meets it here. `f : A → B → C` says that f takes an A and a B and gives a C, and the
-- lines below it say what, case by case; `f a b` is its value at a and b, and `λ x. e` the function that gives e for x.
-- Numbers (ℕ) are whole, from 0 on, and never wrap; `a - b` is 0 where b is larger, `/` and `%` are quotient and remainder.
-- `leb a b`, `ltb a b` and `eqb a b` are the tests a ≤ b, a < b and a = b, each true or false; `&&`, `||` and `not` join them.
-- `[]` is the empty list, and `x ∷ xs` the list xs with x in front. `record { f = a; .. }` is a record, and `r.f` its field f.
-- `◌` in a name is the place of an argument: `◌or_refuse◌then◌` is written `TEST or_refuse STATUS then REST`.
-- `pub`, `abbrev` and `unfoldable` say who may name a definition and how a proof looks into it; they do not change what it says.
-- In a proof `a ≡ b` is the statement that a and b are the same.
use Rattle.std.specs.Prelude.{Bool, true, false, List, [], ℕ, Option, Some, None}
use Rattle.rules.specs.Types.{Plant, Answer, Done, Refused, Refusal}
use Rattle.rules.specs.Real.{Write}

-- a rule refuses by a status and changes nothing, or grants what it says; R is the type of its refusals
pub data RulingBy (R A : Type 0) : Type 0 where
  refused : R → RulingBy R A
  granted : A → RulingBy R A

-- the rules on events
abbrev pub Ruling : Type 0 → Type 0
Ruling A = RulingBy Refusal A

-- TEST or_refuse STATUS then REST
infixr 5 ◌or_refuse◌then◌
abbrev pub ◌or_refuse◌then◌ : {R A : Type 0} → Bool → R → RulingBy R A → RulingBy R A
◌or_refuse◌then◌ true r rest = rest
◌or_refuse◌then◌ false r rest = refused r

-- SCAN refuses STATUS then REST: what the scan finds is refused, and the status is told where it was found
infixr 5 ◌refuses◌then◌
abbrev pub ◌refuses◌then◌ : {R A : Type 0} → Option ℕ → (ℕ → R) → RulingBy R A → RulingBy R A
◌refuses◌then◌ None r rest = rest
◌refuses◌then◌ (Some k) r rest = refused (r k)

-- RULING grants λ VALUE. REST
infixr 5 ◌grants◌
abbrev pub ◌grants◌ : {R A B : Type 0} → RulingBy R A → (A → RulingBy R B) → RulingBy R B
◌grants◌ (refused r) rest = refused r
◌grants◌ (granted a) rest = rest a

-- the rule refuses nothing
abbrev pub accepts : {R A : Type 0} → RulingBy R A → Bool
accepts (refused r) = false
accepts (granted a) = true

-- what an event gives a plant: the answer, the plant's record after, and the writes to its memory, in order
pub record Outcome : Type 0 where
  pub answer : Answer
  pub plant : Plant
  pub writes : List Write

-- an answer with the plant's record after, and no write
abbrev pub says : Answer → Plant → Ruling Outcome
says answer plant = granted (record { answer = answer; plant = plant; writes = [] })

-- EOK with no value, and the plant's record after
abbrev pub done : Plant → Ruling Outcome
done = says Done

-- "Refusals return 0 in all four values", and, "unless said otherwise, nothing changed"
abbrev pub outcome_of : Plant → Ruling Outcome → Outcome
outcome_of plant (refused r) = record { answer = Refused r; plant = plant; writes = [] }
outcome_of plant (granted outcome) = outcome
