-- `reason::put_reason_by` meets its contract: why the line is bad, or what the status means.
use Rattle.reasons.proofs.WordLaws.{by_bad, by_status}
use Rattle.reasons.proofs.reason.put_reason_by.Goals as goal

pub returns-then-same_text : goal.returns-then-same_text
returns-then-same_text c = search by_bad

pub returns : goal.returns
returns c = search by_status
