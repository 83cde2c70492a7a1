-- `session::ask::ask` meets its contract: a case of the line each.
use Rattle.session.proofs.AskLaws.{line_bad, line_image, line_event}
use Rattle.session.proofs.ask.ask.Goals as goal

pub returns-in-Bad : goal.returns-in-Bad
returns-in-Bad c = search line_bad

pub returns-in-Image : goal.returns-in-Image
returns-in-Image c = search line_image

pub returns-in-Event : goal.returns-in-Event
returns-in-Event c = search line_event
