-- The rules after the last field, one by one, and the answers of a load.
use Rattle.std.proofs.Common.{Option, Some, None, Result, Ok, Err, MatchOption}
use Rattle.std.specs.Result.{IsErrAnd}
use Rattle.std.specs.Prelude.{⊤}
use mathlib.Core.Bool.{Bool, true, false}
use mathlib.Core.Path.{◌≡◌, refl}
use Prim.Native.Nat.{ℕ, ◌<◌}
use native.Mathlib.Omega.{arith}
use Rattle.rules.specs.declared.Extents.{Extents}
use Rattle.rules.specs.declared.Tables.{Tables}
use Rattle.rules.specs.declared.ImageRefusal.{ImageRefusal}
use Rattle.rules.specs.Rulings.{refused, granted, ◌or_refuse◌then◌, ◌refuses◌then◌, ◌grants◌}
use Rattle.rules.specs.Image.{Reading, Fields, first_breaking, shares_before, named_before}
use Rattle.rules.proofs.Scan.{first_below_lem}
use Rattle.image.specs.declared.Read.{Read}
use Rattle.image.specs.Answers.{result_of, read_of}
use borrow.Author.Rules.{rules}

-- the fields, as the code gives them, and what is made of them
pub fields_refused : (m : Reading Fields) (f : Fields → Reading Tables) (why : ImageRefusal) (r : Result Tables ImageRefusal) → IsErrAnd r (λ x. x ≡ why) → Err why ≡ result_of (m grants read_of) → r ≡ result_of (m grants f)
fields_refused (granted a) f why r h e = cc
fields_refused (refused x) f why (Err y) h e = cc
fields_refused (refused x) f why (Ok t) h e = absurd h

pub fields_read : (m : Reading Fields) (f : Fields → Reading Tables) (read : Read) (r : Result Tables ImageRefusal) → Ok read ≡ result_of (m grants read_of) → r ≡ result_of (f (record { tables = read.tables; end = read.end })) → r ≡ result_of (m grants f)
fields_read (granted a) f read r e q = let z : read ≡ record { end = a.end; tables = a.tables } = cc in rw z at q
fields_read (refused x) f read r e q = cc

-- a place fits the numbers that tell it
few : (found : Option ℕ) → ((k : ℕ) → found ≡ Some k → k < 256) → MatchOption found ⊤ (λ k. k < 256)
few None h = search rules
few (Some k) h = h k refl

pub breaking_few : (rule : Extents → ℕ → Bool) (t : Tables) → MatchOption (first_breaking rule t) ⊤ (λ k. k < 256)
unfolding first_breaking
breaking_few rule t = few _ (λ k e. omega (arith, first_below_lem _ k _ e))

pub sharing_few : (t : Tables) → MatchOption (shares_before t) ⊤ (λ k. k < 256)
unfolding shares_before
sharing_few t = few _ (λ k e. omega (arith, first_below_lem _ k _ e))

pub named_few : (t : Tables) → MatchOption (named_before t) ⊤ (λ k. k < 256)
unfolding named_before
named_few t = few _ (λ k e. omega (arith, first_below_lem _ k _ e))

-- A rule that finds something refuses, and the rules behind it are tried where it finds nothing; `found` is what the code's search found.
module _ {A : Type 0} (found scan : Option ℕ) (status : ℕ → ImageRefusal) (rest : Reading A) (r : Result A ImageRefusal) (q : found ≡ scan) where
  pub found_stops : (why : ImageRefusal) → IsErrAnd r (λ x. x ≡ why) → Err why ≡ result_of {A = Unit} (found refuses status then granted tt) → r ≡ result_of (scan refuses status then rest)
  found_stops why h e = rw (← q) (stop found r h e)
    where
      stop : (found : Option ℕ) (r : Result A ImageRefusal) → IsErrAnd r (λ x. x ≡ why) → Err why ≡ result_of {A = Unit} (found refuses status then granted tt) → r ≡ result_of (found refuses status then rest)
      stop None r h e = cc
      stop (Some k) (Err x) h e = cc
      stop (Some k) (Ok a) h e = absurd h

  pub found_passes : (u : Unit {0}) → Ok u ≡ result_of {A = Unit} (found refuses status then granted tt) → r ≡ result_of rest → r ≡ result_of (scan refuses status then rest)
  found_passes u e p = rw (← q) (pass found e)
    where
      pass : (found : Option ℕ) → Ok u ≡ result_of {A = Unit} (found refuses status then granted tt) → r ≡ result_of (found refuses status then rest)
      pass None e = p
      pass (Some k) e = cc

-- the last rule
module _ (b : Bool) (status : ImageRefusal) (tables : Tables) where
  pub test_stops : false ≡ b → Err status ≡ result_of (b or_refuse status then granted tables)
  test_stops e = rw (← e)

  pub test_passes : true ≡ b → Ok tables ≡ result_of (b or_refuse status then granted tables)
  test_passes e = rw (← e)
