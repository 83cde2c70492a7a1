-- `fill::filled_out` meets its contract: the number of bytes first, then the bits that are left of the last one.
use Rattle.image.proofs.FillLaws.{fill_behind, fill_bits}
use Rattle.image.proofs.fill.filled_out.Goals as goal

pub returns-then-s-div_ceil : goal.returns-then-s-div_ceil
returns-then-s-div_ceil c = search fill_bits

pub returns-else-s-div_ceil : goal.returns-else-s-div_ceil
returns-else-s-div_ceil c = search fill_behind
