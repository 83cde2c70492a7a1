-- `put_image_line` stays in the buffer: a refusal's line has at most 51 bytes.
use native.Mathlib.Omega.{arith}
use lib.Seq.{length-sets}
use mathlib.Core.Path.{◌≡◌}
use lib.ListN.{length}
use Rattle.text.proofs.PrintLaws.{loading_most}
use Rattle.text.specs.Printed.{loading_text}
use Rattle.rewrite.proofs.put_image_line.Goals as goal

pub returns-in-Err : goal.returns-in-Err
returns-in-Err c =
    let a = c.load_line-loaded.result.answer in
    let same : length c.put_loading.new.out ≡ length c.args.out.now = rw c.put_loading.ensures.1 (length-sets c.args.out.now c.args.at (loading_text a)) in
    (omega (arith, c.put_loading.ensures.0, loading_most a), same)
