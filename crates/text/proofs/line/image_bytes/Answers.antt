-- `line::image_bytes` meets its contract: no image, or the image that `parse_line` found.
use Rattle.std.proofs.Common.{◌∙◌, sym, ⊎_elim, arith}
use Rattle.text.proofs.PieceLaws.{end_within}
use Rattle.text.proofs.LineLaws.{bytes_bad, bytes_event, bytes_fit, bytes_read}
use Rattle.text.proofs.line.image_bytes.Goals as goal

pub read_image-requires : goal.read_image-requires
read_image-requires c = (end_within _ _ _ (omega arith) c.piece_end.ensures, bytes_fit _ c.in-Image.ensures)

pub returns-in-Image : goal.returns-in-Image
returns-in-Image c =
    let w = bytes_read _ c.in-Image.ensures _ c.piece_end.ensures _ _ _ c.read_image.ensures.size c.read_image.ensures.bytes in
    (c.unwrap_or.ensures ∙ w.0, w.1)

pub returns-in-Bad : goal.returns-in-Bad
returns-in-Bad c =
    ⊎_elim (λ e. bytes_bad _ _ (sym e ∙ c.parse_line.ensures)) (λ e. bytes_event _ _ e.0 (sym e.1 ∙ c.parse_line.ensures)) c.in-Bad.is
