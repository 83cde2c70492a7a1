-- `guest::put_extent` meets its contract: its three fields, one behind the other.
use Rattle.rules.specs.Writing.{extent_row}
use Rattle.writer.proofs.RowLaws.{put_three}
use Rattle.writer.proofs.guest.put_extent.Goals as goal

pub returns : goal.returns
unfolding extent_row
returns c = search put_three
