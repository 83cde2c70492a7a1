-- `read_fields` meets its contract: before each turn, what is left to read comes to what the whole does.
use native.Mathlib.Omega.{arith}
use Rattle.image.proofs.GuestLaws.{behind_most}
use Rattle.image.proofs.FieldsLaws.{left_start, left_next, header_most, fields_header, fields_refused, fields_read}
use Rattle.image.proofs.read_fields.Goals as goal

pub returns-in_err-guests : goal.returns-in_err-guests
returns-in_err-guests c = fields_header _ _ _ c.from_residual.ensures.1 c.in_err-guests.ensures

pub loop-i-init : goal.loop-i-init
loop-i-init c = (header_most _ _ c.in_ok-guests.ensures, omega arith, left_start _ _ _ c.guests-guest.ensures)

pub returns-in_err-next : goal.returns-in_err-next
returns-in_err-next c = fields_refused _ _ c.in_ok-guests.ensures _ _ _ c.loop-i.invariant.2 _ _ c.from_residual-in_err-next.ensures.1 (omega arith) c.in_err-next.ensures

pub loop-i-preserved : goal.loop-i-preserved
loop-i-preserved c =
    (omega arith, behind_most _ _ _ _ c.in_ok-next.ensures _ _ c.behind-at.ensures c.loop-i.invariant.1, rw c.from.ensures (left_next _ _ _ _ _ c.loop-i.invariant.2 (omega arith) _ c.in_ok-next.ensures _ c.behind-at.ensures))

pub returns : goal.returns
returns c = fields_read _ _ c.in_ok-guests.ensures _ _ _ c.loop-i.invariant.2 (omega arith) (omega arith)
