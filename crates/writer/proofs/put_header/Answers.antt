-- `put_header` meets its contract: the edition, and behind it the number of guests.
use Rattle.writer.proofs.RowLaws.{header_put}
use Rattle.writer.proofs.put_header.Goals as goal

pub returns : goal.returns
returns c = search header_put
