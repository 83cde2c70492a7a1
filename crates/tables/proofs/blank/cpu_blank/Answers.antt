-- `tables::blank::cpu_blank` meets its contract: each queue and each descriptor is compared with the blank one.
use Rattle.std.proofs.Common.{arith}
use mathlib.Core.Path.{refl, ◌∙◌}
use mathlib.Core.Bool.{and_assoc}
use Rattle.rules.specs.Tables.{tsb_blank}
use Rattle.tables.proofs.Equal.{cpu_compared}
use Rattle.tables.proofs.blank.cpu_blank.Goals as goal

pub returns : goal.returns
unfolding tsb_blank
returns c =
    rw c.cpu.ensures at c.eq.ensures
    ∙ cpu_compared _ _ refl (λ r. refl) (λ x. simp and_assoc) c.args.cpu (omega arith) (omega arith) (omega arith)
