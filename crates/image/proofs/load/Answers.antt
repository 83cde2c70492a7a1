-- `load` meets its contract: refused, or accepted.
use Rattle.rules.specs.Image.{read_image, load}
use Rattle.image.proofs.CountLaws.{granted_by, refused_by}
use Rattle.image.proofs.load.Goals as goal

pub returns-in-Ok : goal.returns-in-Ok
unfolding load
returns-in-Ok c = rw (granted_by (read_image _) _ c.in-Ok.ensures)

pub returns-in-Err : goal.returns-in-Err
unfolding load
returns-in-Err c = rw (refused_by (read_image _) _ c.in-Err.ensures, c.no_guests.ensures)
