-- The search among the names of the sources is the rule's: whether the later one is there is asked of each pair, or once.
use mathlib.Core.Bool.{Bool, true, false, ◌&&◌, and-true, and-false}
use mathlib.Core.Path.{◌≡◌, refl, ◌∙◌}
use Prim.Native.Nat.{ℕ}
use Rattle.std.specs.Prelude.{if◌then◌else◌, Some, None}
use Rattle.rules.specs.declared.Source.{Source}
use Rattle.rules.specs.declared.Tables.{Tables}
use Rattle.rules.specs.Scan.{some_below, first_below}
use Rattle.rules.specs.Image.{listed, listed_at, named, twins, named_before}
use Rattle.rules.proofs.Scan.{none_of, some_same, first_same}
use Rattle.partition.specs.declared.Name.{Name}
use Rattle.partition.specs.Collected.{name_limit, name_at, alike}

-- a test that asks b of each number asks it once
asked_once : (p q : ℕ → Bool) (n : ℕ) (b : Bool) → some_below n (λ i. (p i && b) && q i) ≡ (b && some_below n (λ i. p i && q i))
asked_once p q n true = some_same _ _ n (λ i _. rw and-true)
asked_once p q n false = none_of _ n (λ i _. rw and-false)

-- two places name one source where both have one
abbrev name_of : Source → Name
name_of s = record { devhandle = s.devhandle; devino = s.devino }

both : (a b : Bool) (x y : Source) → alike (if a then Some (name_of x) else None) (if b then Some (name_of y) else None) ≡ ((a && b) && named x y.devhandle y.devino)
both true true x y = refl
both true false x y = refl
both false b x y = refl

pub named_is : (tables : Tables) → first_below name_limit (λ j. some_below j (λ i. alike (name_at tables i) (name_at tables j))) ≡ named_before tables
unfolding twins named_before
named_is tables =
    first_same _ _ name_limit (λ j _.
    some_same _ _ j (λ i _. both (listed tables i) (listed tables j) (listed_at tables i) (listed_at tables j)) ∙ asked_once (listed tables) _ j (listed tables j))
