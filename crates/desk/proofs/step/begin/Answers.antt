-- `step::begin` meets its contract: an image is loaded, and any other line drawn.
use Rattle.desk.proofs.StepLaws.{begun_image, begun_drawn}
use Rattle.desk.proofs.step.begin.Goals as goal

pub returns-in-Image : goal.returns-in-Image
returns-in-Image c = search begun_image

pub returns-in-Bad : goal.returns-in-Bad
returns-in-Bad c = begun_drawn _ _ _ _ c.parse_line.ensures _ _ c.plan_line.ensures c.draw.ensures c.in-Bad.is
