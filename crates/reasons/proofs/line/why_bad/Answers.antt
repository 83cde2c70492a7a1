-- `line::why_bad` meets its contract: too long, good, a carriage return, or the fault of the line.
use Rattle.std.proofs.Common.{◌∙◌}
use Rattle.reasons.proofs.LineLaws.{bad_long, bad_none, bad_return, bad_fault}
use Rattle.reasons.proofs.line.why_bad.Goals as goal

pub returns-then-line-gt2048 : goal.returns-then-line-gt2048
returns-then-line-gt2048 c = bad_long _ c.if-line-gt2048.true

pub returns-in_err-fault : goal.returns-in_err-fault
returns-in_err-fault c = c.from_residual.ensures ∙ bad_none _ c.if-line-gt2048.false c.in_err-fault.ensures

pub returns-then-last_byte-eq13 : goal.returns-then-last_byte-eq13
returns-then-last_byte-eq13 c = bad_return _ c.if-line-gt2048.false _ c.in_ok-fault.ensures _ c.last_byte.ensures c.if-last_byte-eq13.true

pub returns : goal.returns
returns c = bad_fault _ c.if-line-gt2048.false _ c.in_ok-fault.ensures _ c.last_byte.ensures c.if-last_byte-eq13.false
