-- `mmu::tsb::set_tsbs` meets its contract: by what the list came to.
use Rattle.std.proofs.Common.{refl}
use Rattle.plants.specs.Changes.{done_by}
use Rattle.mmu.proofs.TsbLaws.{set_refused, set_right}
use Rattle.mmu.proofs.tsb.set_tsbs.Goals as goal

pub returns-in-Err : goal.returns-in-Err
returns-in-Err c = search set_refused

pub returns-in-Ok : goal.returns-in-Ok
unfolding done_by
returns-in-Ok c = λ plant. rw c.done_by.ensures (set_right _ plant _ _ _ _ _ _ _ c.new_tsbs.ensures c.in-Ok.is refl)
