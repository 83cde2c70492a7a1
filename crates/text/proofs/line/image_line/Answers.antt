-- `line::image_line` meets its contract: a case of the size each.
use Rattle.text.proofs.LineLaws.{image_no, image_yes}
use Rattle.text.proofs.line.image_line.Goals as goal

pub returns-in-None : goal.returns-in-None
returns-in-None c = image_no _ c.in-None.ensures.size

pub returns-in-Some : goal.returns-in-Some
returns-in-Some c = image_yes _ _ c.in-Some.ensures.size
