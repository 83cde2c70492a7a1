-- `mondo::send_one` meets its contract: what is put is marked.
use Rattle.mondo.proofs.MondoLaws.{one_left, one_sent}
use Rattle.mondo.proofs.send_one.Goals as goal

pub returns-in_err-after : goal.returns-in_err-after
returns-in_err-after c = rw c.from_residual.ensures (one_left _ _ _ _ _ _ c.in_err-after.ensures)

pub returns : goal.returns
returns c = one_sent _ _ _ _ _ _ _ _ c.in_ok-after.ensures c.write_at.ensures
