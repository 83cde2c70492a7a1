-- `mmu::tsb::mmu_tsb_ctx0` meets its contract: its change is what the rule makes of the record.
use Rattle.rules.specs.Kept.{with_ctx0}
use Rattle.rules.specs.Tsb.{mmu_tsb_ctx0}
use Rattle.plants.proofs.ChangeLaws.{ctx0_after}
use Rattle.mmu.proofs.TsbLaws.{set_by}
use borrow.Author.Rules.{rules}
use Rattle.mmu.proofs.tsb.mmu_tsb_ctx0.Goals as goal

pub returns : goal.returns
unfolding mmu_tsb_ctx0
returns c = λ plant. set_by _ plant _ _ _ _ _ (with_ctx0 plant _) (λ tsbs. ctx0_after plant tsbs _ _ (search rules)) (c.set_tsbs.ensures plant)
