-- `picture::put_pairs` meets its contract. The invariant: the pairs of the first bytes stand there.
use Rattle.rules.specs.Scan.{each_below}
use Rattle.text.specs.Put.{Put}
use Rattle.plans.proofs.PairLaws.{pair_at}
use Rattle.plans.proofs.picture.put_pairs.Given as goal

abbrev pub invariant-loop-b : goal.invariant-loop-b
invariant-loop-b l = Put l.initial.out l.out l.from l.at (each_below l.b-index (pair_at l.bytes))
