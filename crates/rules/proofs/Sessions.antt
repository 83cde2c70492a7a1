-- Sessions as text: lines in, and beside each line what it prints and what it sets. The cases of each section of the paper are
-- lists of such lines.
use mathlib.Core.Path.{◌≡◌}
use mathlib.Core.List.{List, [], ◌∷◌}
use Prim.Native.Nat.{ℕ}
use Prim.Native.String.{String, ◌++◌}
use lib.ListN.{replicate}
use Rattle.rules.specs.Kept.{no_guests}
use Rattle.rules.specs.Text.{parse}
use Rattle.rules.specs.Session.{Session, Printed, answered}
use Rattle.rules.specs.Text.{bytes_of}
use Rattle.rules.proofs.Changes.{Row, changed}

-- a line, what the program prints for it, and the rows of the tables and words of memory that it changes, as they are after it
pub record Exchange : Type 0 where
  pub line : String
  pub reply : List ℕ
  pub rows : List Row

infix 70 ◌prints◌setting◌
abbrev pub ◌prints◌setting◌ : String → String → List Row → Exchange
line prints reply setting rows = record { line = line; reply = bytes_of reply; rows = rows }

-- a line that changes nothing
infix 70 ◌prints◌
abbrev pub ◌prints◌ : String → String → Exchange
line prints reply = line prints reply setting []

-- a session with no guest and so many bytes of zeroed memory: the program has 32 KiB, and fewer compute sooner
abbrev pub empty : ℕ → Session
empty n = record { tables = no_guests; memory = replicate n 0 }

abbrev pub given : Session → String → Printed
given s line = answered s (parse (bytes_of line))

-- the session after some lines
unfoldable pub after : Session → List String → Session
after s [] = s
after s (line ∷ lines) = after (given s line).session lines

-- the lines of a list with what they print and change, each from what the one before it left
unfoldable pub heard : Session → List Exchange → List Exchange
heard s [] = []
heard s (x ∷ xs) =
    let one : Printed = given s x.line in
    record { line = x.line; reply = one.text; rows = changed s one.session } ∷ heard one.session xs

-- the claim: with n bytes of memory, and after the lines `before`, each line prints and changes what stands beside it, no more
abbrev pub Cases : ℕ → List String → List Exchange → Type 0
Cases n before xs = heard (after (empty n) before) xs ≡ xs

-- Six extents of a page each, apart in real pages, on host pages that descend; an image of one guest with these and a seventh.
abbrev pub six : String
six = " 0000000 0001 0006 0000002 0001 0005 0000004 0001 0004 0000006 0001 0003 0000008 0001 0002 000000a 0001 0001"

abbrev pub seven_with : String → String
seven_with last = "image 11 1e0" ++ six ++ " " ++ last
