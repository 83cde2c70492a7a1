-- `event::event_line` meets its contract: fields that are not right, or the event that they make.
use Rattle.text.proofs.RightLaws.{event_bad, event_held, event_good}
use Rattle.text.proofs.event.event_line.Goals as goal

pub returns-in-None : goal.returns-in-None
returns-in-None c = event_bad _ c.in-None.ensures _

pub event_of-requires : goal.event_of-requires
event_of-requires c = event_held _ _ c.in-Some.ensures

pub returns-in-Some : goal.returns-in-Some
returns-in-Some c = event_good _ _ c.in-Some.ensures _ _ c.event_of.ensures
