-- `line_end` meets its contract: the first line feed from the place on, or the end of the input.
use Rattle.desk.proofs.EndLaws.{end_found}
use Rattle.desk.proofs.line_end.Goals as goal

pub returns : goal.returns
returns c = end_found _ _ _ _ c.first_feed.ensures c.unwrap_or.ensures
