-- What the code tells of a line.
use Rattle.std.specs.Prelude.{ℕ, List, []}
use Rattle.rules.specs.Text.{Line, bad, image, event}
use Rattle.text.specs.declared.line.Line.{Line as Told}

-- all but the bytes of an image
unfoldable pub told : Line → Told
told bad = Told.Bad
told (image bytes) = Told.Image
told (event e) = Told.Event e

-- the bytes of an image, and none of any other line
unfoldable pub image_of : Line → List ℕ
image_of bad = []
image_of (image bytes) = bytes
image_of (event e) = []
