-- "The session program", line by line and for a whole input.
use Rattle.std.specs.Prelude.{List, [], ◌∷◌, ◌++◌, ℕ, eqb, replicate, if◌then◌else◌}
use Rattle.rules.specs.Types.{Tables, Loaded, Reply}
use Rattle.rules.specs.Kept.{no_guests}
use Rattle.rules.specs.Statuses.{numbers, loading_numbers}
use Rattle.rules.specs.Image.{load}
use Rattle.rules.specs.Host.{HostOutcome, host_event}
use Rattle.rules.specs.Text.{Line, bad, image, event, parse, spaced, word_bad, line_feed}

-- what a session holds: it "starts with no guest and 32 KiB of zeroed memory"
pub record Session : Type 0 where
  pub tables : Tables
  pub memory : List ℕ

unfoldable pub begin : Session
begin = record { tables = no_guests; memory = replicate 32768 0 }

-- what a line leaves, and what is told of it
pub record Replied : Type 0 where
  pub session : Session
  pub reply : Reply

abbrev pub after_image : Session → Loaded → Replied
after_image s l = record { session = record { tables = l.tables; memory = s.memory }; reply = Reply.Image l.answer }

abbrev pub after_event : HostOutcome → Replied
after_event o = record { session = record { tables = o.tables; memory = o.memory }; reply = Reply.Event o.answer }

-- a bad line "does nothing"
unfoldable pub replied : Session → Line → Replied
replied s bad = record { session = s; reply = Reply.Bad }
replied s (image bytes) = after_image s (load bytes)
replied s (event e) = after_event (host_event s.tables s.memory e)

-- the text of a reply: for an image "a status and two values", by request No. 4, else "the status and four values"; "A line
-- prints bad"
unfoldable pub text_of : Reply → List ℕ
text_of Reply.Bad = word_bad
text_of (Reply.Image answer) = spaced (loading_numbers answer)
text_of (Reply.Event answer) = spaced (numbers answer)

-- what a line leaves and prints
pub record Printed : Type 0 where
  pub session : Session
  pub text : List ℕ

abbrev pub printed_as : Replied → Printed
printed_as r = record { session = r.session; text = text_of r.reply }

unfoldable pub answered : Session → Line → Printed
answered s line = printed_as (replied s line)

-- "lines .. each ended by a line feed or, unless empty, by the end": the line so far stands in `line`
unfoldable pub lines_from : List ℕ → List ℕ → List (List ℕ)
lines_from [] [] = []
lines_from (c ∷ cs) [] = (c ∷ cs) ∷ []
lines_from line (b ∷ bs) = if eqb b line_feed then line ∷ lines_from [] bs else lines_from (line ++ (b ∷ [])) bs

-- "prints one line for each"
unfoldable pub printed : Session → List (List ℕ) → Printed
printed s [] = record { session = s; text = [] }
printed s (line ∷ lines) =
    let one : Printed = answered s (parse line) in
    let rest : Printed = printed one.session lines in
    record { session = rest.session; text = one.text ++ (line_feed ∷ rest.text) }

-- what the program prints for a whole input
unfoldable pub output : List ℕ → List ℕ
output input = (printed begin (lines_from [] input)).text
