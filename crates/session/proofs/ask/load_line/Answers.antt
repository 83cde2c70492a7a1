-- `session::ask::load_line` meets its contract: the bytes in the buffer are the image's.
use native.Mathlib.Omega.{arith}
use mathlib.Core.Path.{refl}
use Rattle.session.proofs.AskLaws.{bytes_fit, bytes_long, bytes_taken, loaded_is}
use Rattle.session.proofs.ask.load_line.Goals as goal

pub slice_bounds-bytes-end : goal.slice_bounds-bytes-end
slice_bounds-bytes-end c = omega (arith, bytes_fit _ _ _ _ c.image_bytes-n.ensures refl, bytes_long _ _ _ _ c.image_bytes-n.ensures refl)

pub slice_bounds-load-end : goal.slice_bounds-load-end
slice_bounds-load-end c = bytes_taken _ _ _ _ c.image_bytes-n.ensures refl

pub returns : goal.returns
returns c = loaded_is _ _ _ _ c.image_bytes-n.ensures refl _ c.load.ensures
