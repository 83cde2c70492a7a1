-- `print::put_loading` meets its contract: the line of the first three numbers.
use Rattle.text.proofs.PrintLaws.{loading_printed}
use Rattle.text.proofs.print.put_loading.Goals as goal

pub returns : goal.returns
returns c = loading_printed _ _ _ c.loading_numbers.ensures _ _ _ c.put_numbers.ensures
