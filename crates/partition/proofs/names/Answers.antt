-- `partition::names` meets its contract: the closure gives what each place names.
use Rattle.std.proofs.Common.{None, rules}
use Rattle.partition.specs.Collected.{name_limit, name_at, names_of}
use Rattle.partition.proofs.Filled.{made}
use Rattle.partition.proofs.names.Goals as goal

pub returns : goal.returns
unfolding names_of
returns c = made _ _ (name_at c.args.t) name_limit None (λ i y d h k. search rules) _ c.from_fn.ensures.items
