-- `image::why_image` meets its contract. The invariant: the digit that waits, if odd, and the text that is left make the image.
use Rattle.std.proofs.Common.{◌∙◌, ap}
use Rattle.std.proofs.lemmas.List.{take_rest}
use Rattle.reasons.specs.Faults.{why_image}
use Rattle.text.specs.Pieces.{unspaced}
use Rattle.reasons.proofs.ImageLaws.{image_start, image_space, image_bad, image_digit, image_odd, image_even}
use Rattle.reasons.proofs.image.why_image.Goals as goal

pub loop-b-init : goal.loop-b-init
loop-b-init c = image_start _ ∙ ap (λ t. why_image (unspaced t)) (take_rest c.args.s.now c.args.from)

pub loop-b-preserved-then-b-eq32 : goal.loop-b-preserved-then-b-eq32
loop-b-preserved-then-b-eq32 c = image_space _ _ _ _ c.loop-b.invariant c.loop-b-test.true c.if-b-eq32.true

pub returns-then-is_none : goal.returns-then-is_none
returns-then-is_none c = image_bad _ _ _ _ c.loop-b.invariant c.loop-b-test.true c.if-b-eq32.false _ _ c.is_none.ensures c.digit_of.ensures c.if-is_none.true

pub loop-b-preserved : goal.loop-b-preserved
loop-b-preserved c = image_digit _ _ _ _ c.loop-b.invariant c.loop-b-test.true c.if-b-eq32.false _ _ c.is_none.ensures c.digit_of.ensures c.if-is_none.false

pub returns-then-odd : goal.returns-then-odd
returns-then-odd c = image_odd _ _ _ _ c.loop-b.invariant c.loop-b-test.false c.if-odd.true

pub returns : goal.returns
returns c = image_even _ _ _ _ c.loop-b.invariant c.loop-b-test.false c.if-odd.false
