-- Promise: no second outcome, of the parts of a line and of what explains an answer. As in Determined.
use mathlib.Core.Path.{◌≡◌, sym, ◌∙◌}
use Rattle.text.proofs.digit_of.Reads as digit-of-reads
use Rattle.text.proofs.read_number.Reads as read-number-reads
use Rattle.text.proofs.piece_end.Reads as piece-end-reads
use Rattle.text.proofs.put_number.Reads as put-number-reads
use Rattle.text.proofs.put_text.Reads as put-text-reads
use Rattle.text.proofs.same_text.Reads as same-text-reads
use Rattle.reasons.proofs.why_bad.Reads as why-bad-reads
use Rattle.reasons.proofs.put_meaning.Reads as put-meaning-reads
use Rattle.reasons.proofs.put_why.Reads as put-why-reads
use Rattle.reasons.proofs.put_reason.Reads as put-reason-reads

-- text: a digit, a number, the end of a piece, two texts
pub digit_of_determined : (κs : _) (a : _) (r s : _) (ws vs : _) → digit-of-reads.Post κs a r ws → digit-of-reads.Post κs a s vs → r ≡ s
digit_of_determined κs a r s ws vs p q = p ∙ sym q

pub read_number_determined : (κs : _) (a : _) (r s : _) (ws vs : _) → read-number-reads.Post κs a r ws → read-number-reads.Post κs a s vs → r ≡ s
read_number_determined κs a r s ws vs p q = p ∙ sym q

pub piece_end_determined : (κs : _) (a : _) (r s : _) (ws vs : _) → piece-end-reads.Post κs a r ws → piece-end-reads.Post κs a s vs → r ≡ s
piece_end_determined κs a r s ws vs p q = p ∙ sym q

pub same_text_determined : (κs : _) (a : _) (r s : _) (ws vs : _) → same-text-reads.Post κs a r ws → same-text-reads.Post κs a s vs → r ≡ s
same_text_determined κs a r s ws vs p q = p ∙ sym q

-- text: a text and a number, written behind each other
pub put_text_determined : (κs : _) (a : _) (r s : _) (ws vs : _) → put-text-reads.Post κs a r ws → put-text-reads.Post κs a s vs → (r ≡ s) × (ws.1.1.0.now ≡ vs.1.1.0.now)
put_text_determined κs a r s ws vs p q = (p.behind ∙ sym q.behind, p.bytes ∙ sym q.bytes)

pub put_number_determined : (κs : _) (a : _) (r s : _) (ws vs : _) → put-number-reads.Post κs a r ws → put-number-reads.Post κs a s vs → (r ≡ s) × (ws.1.1.1.0.now ≡ vs.1.1.1.0.now)
put_number_determined κs a r s ws vs p q = (p.behind ∙ sym q.behind, p.bytes ∙ sym q.bytes)

-- reasons: why a line is bad, and the words in the lent buffer
pub why_bad_determined : (κs : _) (a : _) (r s : _) (ws vs : _) → why-bad-reads.Post κs a r ws → why-bad-reads.Post κs a s vs → r ≡ s
why_bad_determined κs a r s ws vs p q = p ∙ sym q

pub put_meaning_determined : (κs : _) (a : _) (r s : _) (ws vs : _) → put-meaning-reads.Post κs a r ws → put-meaning-reads.Post κs a s vs → (r ≡ s) × (ws.1.0.now ≡ vs.1.0.now)
put_meaning_determined κs a r s ws vs p q = (p.behind ∙ sym q.behind, p.bytes ∙ sym q.bytes)

pub put_why_determined : (κs : _) (a : _) (r s : _) (ws vs : _) → put-why-reads.Post κs a r ws → put-why-reads.Post κs a s vs → (r ≡ s) × (ws.1.0.now ≡ vs.1.0.now)
put_why_determined κs a r s ws vs p q = (p.behind ∙ sym q.behind, p.bytes ∙ sym q.bytes)

pub put_reason_determined : (κs : _) (a : _) (r s : _) (ws vs : _) → put-reason-reads.Post κs a r ws → put-reason-reads.Post κs a s vs → (r ≡ s) × (ws.1.1.0.now ≡ vs.1.1.0.now)
put_reason_determined κs a r s ws vs p q = (p.behind ∙ sym q.behind, p.bytes ∙ sym q.bytes)
