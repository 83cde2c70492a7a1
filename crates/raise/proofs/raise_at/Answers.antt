-- `raise::raise_at` meets its contract: each return is the rule's case, by the tests on the way.
use Rattle.raise.proofs.RaiseLaws.{raise_stays, raise_disabled}
use Rattle.raise.proofs.raise_at.Goals as goal

pub returns-then-source-eq2 : goal.returns-then-source-eq2
returns-then-source-eq2 c = search raise_stays

pub returns-then-source-ne1 : goal.returns-then-source-ne1
returns-then-source-ne1 c = search raise_disabled
