-- Input in pieces: what a piece gives, and what is kept for the next one.
use Rattle.std.specs.Prelude.{◌≡◌, List, [], ◌∷◌, ◌++◌, ℕ, zero, suc, ◌+◌, min, eqb, leb, ltb, length, replicate, set, take, if◌then◌else◌}
use Rattle.std.proofs.lemmas.List.Edits.{sets}
use Rattle.rules.specs.Kept.{no_guests}
use Rattle.rules.specs.Text.{parse, line_feed}
use Rattle.rules.specs.Session.{Session, Printed, answered}
use Rattle.session.specs.declared.feeder.Fed.{Fed}
use Rattle.session.specs.declared.feeder.Feeder.{Feeder}

-- as many bytes as are kept of a line: one more than the longest has
abbrev pub line_limit : ℕ
line_limit = 2049

-- what feeding has come to: the session, the line so far, which is the first `held` bytes of `line`, and what was printed
pub record Progress : Type 0 where
  pub session : Session
  pub line : List ℕ
  pub held : ℕ
  pub text : List ℕ

-- a line's end, and any other byte
abbrev pub ended : Progress → Printed → Progress
ended p one = record { session = one.session; line = p.line; held = 0; text = p.text ++ (one.text ++ (line_feed ∷ [])) }

abbrev pub pushed : Progress → ℕ → Progress
pushed p b = record { session = p.session; line = set p.line p.held b; held = suc p.held; text = p.text }

unfoldable pub next : Progress → ℕ → Progress
next p b =
    if eqb b line_feed then ended p (answered p.session (parse (take p.held p.line))) else
    if ltb p.held line_limit then pushed p b else
    p

-- the bytes of a piece, one by one
unfoldable pub fed : Progress → List ℕ → Progress
fed p [] = p
fed p (b ∷ bs) = fed (next p b) bs

-- a piece that is fed to a session
abbrev pub taken_up : Feeder → List ℕ → Progress
taken_up feeder memory = record { session = record { tables = feeder.tables; memory = memory }; line = feeder.line; held = min feeder.held line_limit; text = [] }

-- how many bytes of a piece are taken: those for which an answers' buffer of that size has room, as each can end a line and an
-- answer has at most 96 bytes
unfoldable pub takes : ℕ → Progress → List ℕ → ℕ
takes size p [] = 0
takes size p (b ∷ bs) = if leb (length p.text + 96) size then suc (takes size (next p b) bs) else 0

abbrev pub room : Feeder → List ℕ → List ℕ → List ℕ → ℕ
room feeder memory piece out = takes (length out) (taken_up feeder memory) piece

-- the same but for what was printed: all that the next byte finds
abbrev pub unprinted : Progress → Progress
unprinted p = record { session = p.session; line = p.line; held = p.held; text = [] }

-- no byte of a piece is lost: what the next byte finds is what it finds after all of them
abbrev pub AllFed : Feeder → List ℕ → List ℕ → Feeder → List ℕ → Type 0
AllFed feeder memory piece after memory' = taken_up after memory' ≡ unprinted (fed (taken_up feeder memory) piece)

unfoldable pub feed_of : Feeder → List ℕ → List ℕ → List ℕ → Progress
feed_of feeder memory piece out = fed (taken_up feeder memory) (take (room feeder memory piece out) piece)

-- "starts with no guest"
unfoldable pub at_first : Feeder
at_first = record { tables = no_guests; line = replicate line_limit 0; held = 0 }

-- what the end of the input stands for: "each ended by a line feed or, unless empty, by the end"
unfoldable pub ending : ℕ → List ℕ
ending zero = []
ending (suc n) = line_feed ∷ []

-- the code's result, and what it leaves in memory and in the answers' buffer
pub record Feeds (p : Progress) (n : ℕ) (before : List ℕ) (r : Fed) (m w : List ℕ) : Type 0 where
  pub tables : r.feeder.tables ≡ p.session.tables
  pub line : r.feeder.line ≡ p.line
  pub held : r.feeder.held ≡ p.held
  pub taken : r.taken ≡ n
  pub written : r.written ≡ length p.text
  pub memory : m ≡ p.session.memory
  pub out : w ≡ sets before 0 p.text
