-- `image::why_image` meets its contract. The invariant: the digit that waits, if odd, and the text that is left make the image.
use mathlib.Core.Path.{◌≡◌}
use lib.ListN.{drop}
use Rattle.text.specs.Pieces.{unspaced}
use Rattle.text.proofs.ImageLaws.{left}
use Rattle.reasons.specs.Faults.{why_image}
use Rattle.reasons.proofs.ImageLaws.{why_from}
use Rattle.reasons.proofs.image.why_image.Given as goal

abbrev pub invariant-loop-b : goal.invariant-loop-b
invariant-loop-b l = why_from l.odd (drop l.b-index (left l.from l.s)) ≡ why_image (unspaced (drop l.from l.s))
