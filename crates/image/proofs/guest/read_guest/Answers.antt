-- `guest::read_guest` meets its contract: three counts, the first refusal of which is the answer, and the lists behind them.
use native.Mathlib.Omega.{arith}
use Rattle.rules.specs.Image.{read_guest}
use Rattle.image.proofs.CountLaws.{stops, goes_on, is_most}
use Rattle.image.proofs.GuestLaws.{cpus_read, extents_read, sources_read}
use Rattle.image.proofs.guest.read_guest.Goals as goal

pub returns-in_err-cpus : goal.returns-in_err-cpus
unfolding read_guest
returns-in_err-cpus c = stops (cpus_read _ _ _) _ _ _ c.from_residual.ensures.1 c.in_err-cpus.ensures

pub returns-in_err-extents : goal.returns-in_err-extents
unfolding read_guest
returns-in_err-extents c = goes_on (cpus_read _ _ _) _ _ _ c.in_ok-cpus.ensures (stops (extents_read _ _ _) _ _ _ c.from_residual-in_err-extents.ensures.1 c.in_err-extents.ensures)

pub returns-in_err-sources : goal.returns-in_err-sources
unfolding read_guest
returns-in_err-sources c = goes_on (cpus_read _ _ _) _ _ _ c.in_ok-cpus.ensures (goes_on (extents_read _ _ _) _ _ _ c.in_ok-extents.ensures (stops (sources_read _ _ _) _ _ _ c.from_residual-in_err-sources.ensures.1 c.in_err-sources.ensures))

pub read_lists-requires : goal.read_lists-requires
read_lists-requires c = (omega arith, is_most _ _ _ _ _ _ _ c.in_ok-extents.ensures, is_most _ _ _ _ _ _ _ c.in_ok-sources.ensures)

pub returns : goal.returns
unfolding read_guest
returns c =
    goes_on (cpus_read _ _ _) _ _ _ c.in_ok-cpus.ensures (goes_on (extents_read _ _ _) _ _ _ c.in_ok-extents.ensures (goes_on (sources_read _ _ _) _ _ _ c.in_ok-sources.ensures c.read_lists.ensures))
