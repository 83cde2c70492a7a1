-- `session::feeder::begin` meets its contract.
use Rattle.session.proofs.FeedLaws.{begins}
use Rattle.session.proofs.feeder.begin.Goals as goal

pub returns : goal.returns
returns c = begins _ c.load.ensures
