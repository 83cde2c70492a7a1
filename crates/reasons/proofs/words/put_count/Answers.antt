-- `words::put_count` meets its contract: a text behind another.
use Rattle.reasons.proofs.PutLaws.{put_behind}
use Rattle.reasons.proofs.words.put_count.Goals as goal

pub returns : goal.returns
returns c = put_behind _ _ _ _ _ _ _ _ c.put_text-at.ensures c.put_form.ensures
