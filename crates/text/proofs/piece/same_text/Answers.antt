-- `piece::same_text` meets its contract: `==` of slices goes byte by byte, as the rules' `same` does.
use Rattle.std.proofs.Common.{◌∙◌}
use Rattle.text.proofs.PieceLaws.{same_is}
use Rattle.text.proofs.piece.same_text.Goals as goal

pub returns : goal.returns
returns c = c.eq.ensures ∙ same_is _ _
