-- `read_image` meets its contract: the fields, and then the rules that come after them.
use Rattle.rules.specs.Image.{read_fields, read_image}
use Rattle.image.proofs.LoadLaws.{fields_refused, fields_read}
use Rattle.image.proofs.read_image.Goals as goal

pub returns-in_err-read : goal.returns-in_err-read
unfolding read_image
returns-in_err-read c = fields_refused (read_fields _) _ _ _ c.from_residual.ensures.1 c.in_err-read.ensures

pub returns : goal.returns
unfolding read_image
returns c = fields_read (read_fields _) _ _ _ c.in_ok-read.ensures c.judge.ensures
