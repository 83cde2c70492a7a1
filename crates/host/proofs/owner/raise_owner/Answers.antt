-- `host::owner::raise_owner` meets its contract: a search of the guests that are there.
use native.Mathlib.Omega.{arith}
use Rattle.rules.proofs.Scan.{first_start, first_next}
use Rattle.host.proofs.OwnerLaws.{owner_found_lem, owner_none}
use Rattle.host.proofs.owner.raise_owner.Goals as goal

pub loop-g-init : goal.loop-g-init
loop-g-init c = (omega arith, first_start _)

pub returns-then-count-g : goal.returns-then-count-g
returns-then-count-g c = owner_none _ _ _ c.loop-g.g c.loop-g.invariant.1 c.loop-g.invariant.0 (omega arith)

pub returns-then-has_source : goal.returns-then-has_source
returns-then-has_source c = owner_found_lem _ _ _ _ _ (omega arith) c.loop-g.invariant.1 c.has_source.ensures c.if-has_source.true

pub loop-g-preserved : goal.loop-g-preserved
loop-g-preserved c = (omega arith, first_next _ _ _ c.loop-g.invariant.1 c.has_source.ensures c.if-has_source.false)

pub returns : goal.returns
returns c = owner_none _ _ _ c.loop-g.g c.loop-g.invariant.1 c.loop-g.invariant.0 (omega (arith, c.requires.few))
