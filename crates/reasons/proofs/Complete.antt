-- Every status that the rules can answer has its words.
use Rattle.std.proofs.Common.{Ok, Err}
use mathlib.Core.Bool.{Bool, true, false, ◌||◌}
use mathlib.Core.Path.{◌≡◌, refl}
use mathlib.Core.List.{List, [], ◌∷◌}
use Prim.Native.Nat.{ℕ}
use lib.Dec.{eqb}
use lib.ListN.{get_or}
use Rattle.rules.specs.declared.Refusal.{Refusal}
use Rattle.rules.specs.declared.Refusal.TheVariants.{ENOCPU, ENORADDR, EBADPGSZ, EBADTSB, EINVAL, EBADTRAP, EBADALIGN, EWOULDBLOCK, ENOTSUPPORTED, BadTables, ShortMemory, NoCaller, NoSource}
use Rattle.rules.specs.declared.ImageRefusal.{ImageRefusal}
use Rattle.rules.specs.declared.ImageRefusal.TheVariants.{ImageShort, HeaderOrCount, ExtentNumbers, ExtentOrder, PagesShared, SourceTwice, FillOrBehind}
use Rattle.rules.specs.Types.{Loading}
use Rattle.rules.specs.declared.Answer.{Answer}
use Rattle.rules.specs.declared.Answer.TheVariants.{Done, One, Two, Refused}
use Rattle.rules.specs.Statuses.{status_of, numbers, image_numbers, loading_numbers}
use Rattle.reasons.specs.Words.{Meaning, meanings}

-- the status stands in the table
unfoldable pub listed : List Meaning → ℕ → Bool
listed [] status = false
listed (m ∷ ms) status = eqb status m.status || listed ms status

refusal_listed : (why : Refusal) → listed meanings (status_of why) ≡ true
unfolding listed meanings status_of
refusal_listed ENOCPU = refl
refusal_listed ENORADDR = refl
refusal_listed EBADPGSZ = refl
refusal_listed EBADTSB = refl
refusal_listed EINVAL = refl
refusal_listed EBADTRAP = refl
refusal_listed EBADALIGN = refl
refusal_listed EWOULDBLOCK = refl
refusal_listed ENOTSUPPORTED = refl
refusal_listed BadTables = refl
refusal_listed ShortMemory = refl
refusal_listed NoCaller = refl
refusal_listed NoSource = refl

pub every_status : (answer : Answer) → listed meanings (get_or (numbers answer) 0 0) ≡ true
unfolding listed meanings numbers
every_status Done = refl
every_status (One v) = refl
every_status (Two v w) = refl
every_status (Refused why) = refusal_listed why

image_listed : (why : ImageRefusal) → listed meanings (get_or (image_numbers why) 0 0) ≡ true
unfolding listed meanings image_numbers
image_listed ImageShort = refl
image_listed (HeaderOrCount guest) = refl
image_listed (ExtentNumbers guest at) = refl
image_listed (ExtentOrder guest at) = refl
image_listed (PagesShared guest at) = refl
image_listed (SourceTwice guest at) = refl
image_listed (FillOrBehind guests) = refl

pub every_loading : (answer : Loading) → listed meanings (get_or (loading_numbers answer) 0 0) ≡ true
unfolding listed meanings loading_numbers
every_loading (Ok u) = refl
every_loading (Err why) = image_listed why
