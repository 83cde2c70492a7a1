-- `stream::write_all` counts what it has written, and no more bytes than there are: a write that was interrupted wrote nothing.
use Rattle.std.proofs.Common.{arith}
use Rattle.std.proofs.KnownBytes.{Appends-kept}
use Rattle.stream.proofs.WriteLaws.{written_on}
use Rattle.stream.proofs.write_all.Goals as goal
use Rattle.stream.proofs.write_all.Goals.{in-Ok, in-Err+in-Interrupted}

pub loop-preserved : goal.loop-preserved
loop-preserved g c =
    elim c.match-write.branch [
      | in-Ok w ↦ (
        omega (arith, w.in-Ok.ensures.bound),
        rw w.done-is (written_on c.loop.done w.in-Ok.n c.args.bytes.now _ _ _ c.loop.invariant.1 w.in-Ok.ensures.bytes),
      )
      | in-Err+in-Interrupted w ↦ (omega arith, rw w.done-is (Appends-kept _ _ _ _ c.loop.invariant.1 w.in-Err.ensures.bytes))
    ]
