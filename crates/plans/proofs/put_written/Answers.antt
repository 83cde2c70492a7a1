-- `put_written` meets its contract: the line of the image that was written, or of the status.
use mathlib.Core.Path.{sym}
use lib.Seq.{length-take-le}
use Rattle.plans.proofs.DeskLaws.{written_fits, written_text_lem, refused_text}
use native.Mathlib.Omega.{arith}
use Rattle.plans.proofs.put_written.Goals as goal

pub slice_bounds-image-end : goal.slice_bounds-image-end
slice_bounds-image-end c = omega (arith, (written_fits _ _ _ _ c.write_image.ensures _ c.in-Ok.is))

pub slice_bounds-put_image_line-end : goal.slice_bounds-put_image_line-end
slice_bounds-put_image_line-end c = sym (length-take-le _ _ (omega (arith, (written_fits _ _ _ _ c.write_image.ensures _ c.in-Ok.is))))

pub returns-in-Ok : goal.returns-in-Ok
returns-in-Ok c = rw (written_text_lem _ _ _ _ c.write_image.ensures _ c.in-Ok.is) c.put_image_line.ensures

pub returns-in-Err : goal.returns-in-Err
returns-in-Err c =
    let put = c.put_numbers.ensures in
    rw (refused_text _ _ _ _ c.write_image.ensures _ c.in-Err.is, ← c.write_status.ensures)
    (record { behind = put.0; bytes = put.1 })
