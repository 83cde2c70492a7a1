-- `host::door::seat_of` meets its contract: by what the door came to.
use Rattle.std.proofs.Common.{refl}
use Rattle.host.proofs.DoorLaws.{counted}
use Rattle.host.proofs.door.seat_of.Goals as goal

pub owner_of-requires : goal.owner_of-requires
owner_of-requires c = counted _ (c.requires (rw c.in_ok-door.was refl))
