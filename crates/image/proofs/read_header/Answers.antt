-- `read_header` meets its contract: a refused edition is the answer, and the number of guests otherwise.
use Rattle.rules.specs.Image.{read_header}
use Rattle.image.proofs.CountLaws.{stops, goes_on}
use Rattle.image.proofs.FieldsLaws.{edition_read}
use Rattle.image.proofs.read_header.Goals as goal

pub returns-in_err-read_count : goal.returns-in_err-read_count
unfolding read_header
returns-in_err-read_count c = stops (edition_read _) _ _ _ c.from_residual.ensures.1 c.in_err-read_count.ensures

pub returns : goal.returns
unfolding read_header
returns c = goes_on (edition_read _) _ _ _ c.in_ok-read_count.ensures c.read_count-2.ensures
