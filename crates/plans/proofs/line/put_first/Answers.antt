-- `line::put_first` meets its contract: the space behind the word.
use Rattle.plans.proofs.LineLaws.{put_byte}
use Rattle.plans.proofs.line.put_first.Goals as goal

pub returns : goal.returns
returns c = put_byte _ _ _ _ _ _ c.put_text-end.ensures
