-- `calls::dispatch::call` meets its contract: no function, one that may not be called, or one that may.
use Rattle.calls.proofs.DispatchLaws.{call_unknown, call_refused, call_performed}
use Rattle.calls.proofs.dispatch.call.Goals as goal

pub returns-in_default : goal.returns-in_default
returns-in_default c = call_unknown _ _ _ _ _ _ c.in_default.ensures c.told.ensures

pub returns-in-Ok : goal.returns-in-Ok
returns-in-Ok c = call_performed _ _ _ _ _ _ _ c.in-Some.ensures _ c.in-Ok.ensures c.perform.ensures

pub returns-in-Err : goal.returns-in-Err
returns-in-Err c = call_refused _ _ _ _ _ _ _ c.in-Some.ensures _ c.in-Err.ensures c.told-in-Err.ensures
