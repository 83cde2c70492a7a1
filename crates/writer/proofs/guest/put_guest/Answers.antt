-- `guest::put_guest` meets its contract: the counts, the extents and the sources, one behind the other.
use native.Mathlib.Omega.{arith}
use Rattle.writer.proofs.RowLaws.{guest_length, guest_put}
use Rattle.writer.proofs.guest.put_guest.Goals as goal

pub put_counts-requires : goal.put_counts-requires
put_counts-requires c = omega (arith, guest_length c.args.guest)

pub put_extents-requires : goal.put_extents-requires
put_extents-requires c = omega (arith, guest_length c.args.guest)

pub put_sources-requires : goal.put_sources-requires
put_sources-requires c = omega (arith, guest_length c.args.guest)

pub returns : goal.returns
returns c = search guest_put
