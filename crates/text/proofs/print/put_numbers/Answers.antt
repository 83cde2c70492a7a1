-- `print::put_numbers` meets its contract. The invariant: the numbers so far stand there, each with a space behind it.
use Rattle.std.proofs.Common.{◌≡◌, length, take, arith, length-take-le}
use Rattle.text.proofs.PrintLaws.{trailed_start, trailed_room, trailed_next, trailed_some, trailed_end, taken_end}
use Rattle.text.proofs.print.put_numbers.Goals as goal

pub loop-n-init : goal.loop-n-init
loop-n-init c = trailed_start _ _ _

pub put_hex-at-requires : goal.put_hex-at-requires
put_hex-at-requires c =
    let l = c.loop-n in
    let k : length (take c.args.count c.args.ns) ≡ c.args.count = length-take-le _ _ (omega arith) in
    omega (arith, trailed_room (take c.args.count c.args.ns) _ _ l.n-index _ _ l.invariant.0 l.invariant.1 (omega arith))

pub bounds-out-at : goal.bounds-out-at
bounds-out-at c =
    let l = c.loop-n in
    let k : length (take c.args.count c.args.ns) ≡ c.args.count = length-take-le _ _ (omega arith) in
    omega (arith, trailed_room (take c.args.count c.args.ns) _ _ l.n-index _ _ l.invariant.0 l.invariant.1 (omega arith))

pub overflow_add-at : goal.overflow_add-at
overflow_add-at c =
    let l = c.loop-n in
    let k : length (take c.args.count c.args.ns) ≡ c.args.count = length-take-le _ _ (omega arith) in
    omega (arith, trailed_room (take c.args.count c.args.ns) _ _ l.n-index _ _ l.invariant.0 l.invariant.1 (omega arith))

pub loop-n-preserved : goal.loop-n-preserved
loop-n-preserved c = trailed_next _ _ _ _ _ _ c.loop-n.invariant.0 c.loop-n.invariant.1 _ _ c.put_hex-at.ensures

pub overflow_sub-out : goal.overflow_sub-out
overflow_sub-out c =
    let l = c.loop-n in
    let k : length (take c.args.count c.args.ns) ≡ c.args.count = length-take-le _ _ (omega arith) in
    omega (arith, trailed_some (take c.args.count c.args.ns) _ _ l.n-index _ _ l.invariant.0 l.invariant.1 c.args.count (omega arith) (omega arith) (omega arith))

pub bounds-out-at-2 : goal.bounds-out-at-2
bounds-out-at-2 c =
    let l = c.loop-n in
    let k : length (take c.args.count c.args.ns) ≡ c.args.count = length-take-le _ _ (omega arith) in
    omega (arith, trailed_some (take c.args.count c.args.ns) _ _ l.n-index _ _ l.invariant.0 l.invariant.1 c.args.count (omega arith) (omega arith) (omega arith))

pub returns : goal.returns
returns c =
    let l = c.loop-n in
    let k : length (take c.args.count c.args.ns) ≡ c.args.count = length-take-le _ _ (omega arith) in
    taken_end _ _ _ _ _ _ (omega arith) (trailed_end _ _ _ l.n-index _ _ l.invariant.0 l.invariant.1 _ c.loop-n.auto.n-index-end c.loop-n-test.false (omega arith) (omega arith))
