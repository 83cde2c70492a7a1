-- `mondo::tails_of` meets its contract: what the closure gives of each ring is its tail.
use Rattle.std.proofs.Common.{rules, tests, arith}
use Rattle.rules.specs.Kept.{blank_queue}
use Rattle.mondo.specs.Steps.{tail_in, tails_of}
use Rattle.mondo.proofs.RingTails.{mapped}
use Rattle.mondo.proofs.tails_of.Goals as goal

pub returns : goal.returns
unfolding tails_of
returns c = mapped tail_in blank_queue 0 _ _ (omega arith) (λ i h. let k = c.map.ensures.items.at i blank_queue 0 (omega arith) in let u = k.2 in search (rules, tests))
