-- `reason::put_status` meets its contract: no number, or the number of a status.
use Rattle.reasons.proofs.WordLaws.{status_none, status_is}
use Rattle.reasons.proofs.reason.put_status.Goals as goal

pub returns-in-None : goal.returns-in-None
returns-in-None c = status_none _ _ _ _ c.in-None.ensures c.put_text.ensures

pub returns-in-Some : goal.returns-in-Some
returns-in-Some c = status_is _ _ _ _ _ c.in-Some.ensures c.put_meaning.ensures
