-- `print::put_answer` meets its contract: the line of all five numbers.
use Rattle.text.proofs.PrintLaws.{answer_printed}
use Rattle.text.proofs.print.put_answer.Goals as goal

pub returns : goal.returns
returns c = answer_printed _ _ _ c.numbers_of.ensures _ _ _ c.put_numbers.ensures
