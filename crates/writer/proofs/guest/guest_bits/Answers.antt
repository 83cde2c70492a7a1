-- `guest::guest_bits` meets its contract: the counts, and so many bits for each extent and each source.
use native.Mathlib.Omega.{arith}
use mathlib.Core.Path.{sym}
use Rattle.writer.proofs.RowLaws.{guest_length}
use Rattle.writer.proofs.guest.guest_bits.Goals as goal

pub returns : goal.returns
returns c = (sym (guest_length _), omega arith)
