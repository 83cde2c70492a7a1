-- Promise: no second outcome, of the planning desk's functions and what they stand on. As in Determined.
use mathlib.Core.Path.{◌≡◌, sym, ◌∙◌}
use Rattle.bits.proofs.put_field.Reads as put-field-reads
use Rattle.text.proofs.digit_byte.Reads as digit-byte-reads
use Rattle.text.proofs.read_fields.Reads as read-fields-reads
use Rattle.text.proofs.put_numbers.Reads as put-numbers-reads
use Rattle.text.proofs.write_status.Reads as write-status-reads
use Rattle.writer.proofs.write_image.Reads as write-image-reads
use Rattle.session.proofs.load_line.Reads as load-line-reads
use Rattle.desk.proofs.desk_after.Reads as desk-after-reads
use Rattle.desk.proofs.plan_line.Reads as plan-line-reads
use Rattle.plans.proofs.answer.Reads as answer-reads

-- writer::write_image: the answer, and every byte of the buffer
pub write_image_determined : (κs : _) (a : _) (r s : _) (ws vs : _) → write-image-reads.Post κs a r ws → write-image-reads.Post κs a s vs → (r ≡ s) × (ws.1.0.now ≡ vs.1.0.now)
write_image_determined κs a r s ws vs p q = (p.0 ∙ sym q.0, p.1 ∙ sym q.1)

-- desk::desk_after and plans::answer: what the lines come to, and the bytes that are printed
pub desk_after_determined : (κs : _) (a : _) (r s : _) (ws vs : _) → desk-after-reads.Post κs a r ws → desk-after-reads.Post κs a s vs → r ≡ s
desk_after_determined κs a r s ws vs p q = p ∙ sym q

pub plan_line_determined : (κs : _) (a : _) (r s : _) (ws vs : _) → plan-line-reads.Post κs a r ws → plan-line-reads.Post κs a s vs → r ≡ s
plan_line_determined κs a r s ws vs p q = p ∙ sym q

pub answer_determined : (κs : _) (a : _) (r s : _) (ws vs : _) → answer-reads.Post κs a r ws → answer-reads.Post κs a s vs → (r ≡ s) × (ws.1.0.now ≡ vs.1.0.now)
answer_determined κs a r s ws vs p q = (p.0 ∙ sym q.0, p.1 ∙ sym q.1)

-- session::load_line: the tables of an image line, and the answer
pub load_line_determined : (κs : _) (a : _) (r s : _) (ws vs : _) → load-line-reads.Post κs a r ws → load-line-reads.Post κs a s vs → r ≡ s
load_line_determined κs a r s ws vs p q = p ∙ sym q

-- bits: every byte that a field leaves
pub put_field_determined : (κs : _) (a : _) (r s : _) (ws vs : _) → put-field-reads.Post κs a r ws → put-field-reads.Post κs a s vs → ws.0.now ≡ vs.0.now
put_field_determined κs a r s ws vs p q = p ∙ sym q

-- text: a digit, the fields of a line, numbers in a row, a status
pub digit_byte_determined : (κs : _) (a : _) (r s : _) (ws vs : _) → digit-byte-reads.Post κs a r ws → digit-byte-reads.Post κs a s vs → r ≡ s
digit_byte_determined κs a r s ws vs p q = p ∙ sym q

pub read_fields_determined : (κs : _) (a : _) (r s : _) (ws vs : _) → read-fields-reads.Post κs a r ws → read-fields-reads.Post κs a s vs → r ≡ s
read_fields_determined κs a r s ws vs p q = p ∙ sym q

pub put_numbers_determined : (κs : _) (a : _) (r s : _) (ws vs : _) → put-numbers-reads.Post κs a r ws → put-numbers-reads.Post κs a s vs → (r ≡ s) × (ws.1.1.1.0.now ≡ vs.1.1.1.0.now)
put_numbers_determined κs a r s ws vs p q = (p.0 ∙ sym q.0, p.1 ∙ sym q.1)

pub write_status_determined : (κs : _) (a : _) (r s : _) (ws vs : _) → write-status-reads.Post κs a r ws → write-status-reads.Post κs a s vs → r ≡ s
write_status_determined κs a r s ws vs p q = p ∙ sym q
