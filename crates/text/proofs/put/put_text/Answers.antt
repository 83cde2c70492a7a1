-- `put::put_text` meets its contract: the copy leaves the text, and the rest of the array.
use Rattle.text.proofs.PutLaws.{text_put}
use Rattle.text.proofs.put.put_text.Goals as goal

pub returns : goal.returns
returns c = text_put _ _ _ _ c.copy_from_slice.ensures.after c.requires
