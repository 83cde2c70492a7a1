-- `mondo::send_all` meets its contract: what is left of the list makes of the record with such tails and the memory what the
-- whole makes of those at entry, for any plant whose rings were read.
use mathlib.Core.Path.{◌≡◌}
use lib.ListN.{length}
use Rattle.rules.specs.declared.Plant.{Plant}
use Rattle.plants.specs.Changes.{with_tails}
use Rattle.mondo.proofs.SendLaws.{Owns, Sending}
use Rattle.mondo.proofs.send_all.Given as goal

abbrev pub invariant-loop-i : goal.invariant-loop-i
invariant-loop-i l =
    (length l.mem ≡ length l.initial.mem) × (length l.tails ≡ 8)
    × ((plant : Plant) → Owns l.extents (length l.initial.mem) l.cpus l.rings plant → Sending l.extents plant l.initial.mem l.cpus l.packet l.list (with_tails plant l.tails) l.mem l.all l.i)
