-- What a line asks for, where the door to the tables has been looked at.
use Rattle.std.specs.Prelude.{Ok, Err}
use Rattle.rules.specs.declared.Answer.{Answer}
use Rattle.rules.specs.declared.Event.{Event}
use Rattle.rules.specs.declared.Reply.{Reply}
use Rattle.rules.specs.declared.Tables.{Tables}
use Rattle.rules.specs.Text.{Line, bad, image, event}
use Rattle.records.specs.Verdict.{Verdict}
use Rattle.host.specs.Seats.{Seat}
use Rattle.host.specs.Seats.{seat_of}
use Rattle.session.specs.declared.ask.Asked.{Asked}

abbrev pub seated : Event → Seat → Asked
seated e (Err r) = Asked.Said (Reply.Event (Answer.Refused r))
seated e (Ok g) = Asked.Guest g e

unfoldable pub asked_of : Tables → Verdict → Event → Asked
asked_of tables door e = seated e (seat_of tables door e)

unfoldable pub asked : Tables → Verdict → Line → Asked
asked tables door bad = Asked.Said Reply.Bad
asked tables door (image bytes) = Asked.Image
asked tables door (event e) = asked_of tables door e
