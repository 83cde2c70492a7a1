-- `digits::read_image` meets its contract. The invariant: the first n bytes of out, the digit that waits and the text that is left make the
-- image; behind the first n bytes out is as it was. Each byte takes two digits, so that there is room.
use Rattle.text.proofs.ImageLaws.{left, Reading}
use Rattle.text.proofs.digits.read_image.Given as goal

abbrev pub invariant-loop-b : goal.invariant-loop-b
invariant-loop-b l = Reading (left l.from l.s) l.initial.out l.out l.n l.high l.b-index
