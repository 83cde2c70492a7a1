-- `reason::put_reason` meets its contract: the answer without its line feed, and the reason of that.
use Rattle.reasons.proofs.WordLaws.{whole_reason}
use Rattle.reasons.proofs.reason.put_reason.Goals as goal

pub returns : goal.returns
returns c = whole_reason _ _ _ _ _ _ c.unfed.ensures c.put_reason_of.ensures
