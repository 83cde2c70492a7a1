-- `main` is safe: what is read lies in the buffer, and what is printed fits its room.
use mathlib.Core.Path.{sym}
use native.Mathlib.Omega.{arith}
use Prim.Native.Nat.{ℕ}
use lib.ListN.{length-replicate}
use lib.Seq.{length-take-le}
use Rattle.plans.proofs.FitLaws.{answer_fits}
use Rattle.plan.proofs.main.Goals as goal

pub slice_bounds-out-end : goal.slice_bounds-out-end
slice_bounds-out-end c = answer_fits _ _ _ _ (omega (arith, length-replicate {A = ℕ} 8192 0)) c.answer-length.ensures

pub slice_bounds-write_all-end : goal.slice_bounds-write_all-end
slice_bounds-write_all-end c =
    sym (length-take-le _ _ (answer_fits _ _ _ _ (omega (arith, length-replicate {A = ℕ} 8192 0)) c.answer-length.ensures))
