-- `write_at` meets its contract. The invariant: the first i bytes of src are put where their addresses lie.
use native.Mathlib.Omega.{arith}
use mathlib.Core.Path.{◌≡◌, ◌∙◌}
use lib.ListN.{length}
use lib.Seq.{length-take-le, take-length}
use Rattle.memory.proofs.Walks.{walk_most, walk_put, cut_length, cut_parts, put_all}
use Rattle.memory.proofs.guest.write_at.Goals as goal

pub loop-i-preserved : goal.loop-i-preserved
loop-i-preserved c =
    let most = walk_most _ _ _ _ _ c.piece_at-at.ensures.0 (omega arith) in
    (most, c.write.auto.mem ∙ c.loop-i.invariant.1, omega (arith, c.piece_at-at.ensures.1), rw (← cut_parts c.args.src.now c.loop-i.i c.piece_at-at.result.len) (walk_put _ _ _ _ _ c.piece_at-at.ensures.0 c.args.mem.now c.loop-i.mem _ _ _ c.requires.ready.apart c.loop-i.invariant.3 (length-take-le _ _ (omega arith)) (cut_length _ _ _ most) c.write.ensures))

pub returns : goal.returns
returns c =
    let e : c.loop-i.i ≡ length c.args.src.now = omega arith in
    put_all _ _ _ _ _ (c.loop-i.invariant.3 ∙ rw (e, take-length))
