-- `line::put_word_line` meets its contract: the numbers behind the word.
use Rattle.plans.proofs.LineLaws.{numbers_behind}
use Rattle.plans.proofs.line.put_word_line.Goals as goal

pub returns : goal.returns
returns c = numbers_behind _ _ _ _ _ _ _ c.put_first-from.ensures _ _ c.put_numbers.ensures
