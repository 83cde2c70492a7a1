-- `guest::put_counts` meets its contract: its three fields, one behind the other.
use Rattle.rules.specs.Writing.{counts_row}
use Rattle.writer.proofs.RowLaws.{put_three}
use Rattle.writer.proofs.guest.put_counts.Goals as goal

pub returns : goal.returns
unfolding counts_row
returns c = search put_three
