-- `number_in` meets its contract: another byte fits a word.
use native.Mathlib.Omega.{arith}
use Rattle.memory.proofs.Numbers.{number_room}
use Rattle.memory.proofs.runs.number_in.Goals as goal

pub overflow_mul-v : goal.overflow_mul-v
overflow_mul-v c = omega (arith, number_room _ _ c.loop-b.invariant.1 (omega arith))

pub overflow_add-v : goal.overflow_add-v
overflow_add-v c = omega (arith, number_room _ _ c.loop-b.invariant.1 (omega arith), c.type_inv.bytes c.loop-b.b-index)
