-- `guest::put_source` meets its contract: its three fields, one behind the other.
use Rattle.writer.proofs.RowLaws.{source_put}
use Rattle.writer.proofs.guest.put_source.Goals as goal

pub returns : goal.returns
returns c = search source_put
