-- Promise: no second outcome. Over each public function's own contract, as its source states it: two results that meet it, and
-- two last contents of each lent buffer, are equal. Post is the contract's `ensures`; κs and a are what a call is given (lifetimes
-- and arguments), r and s two results, and ws and vs what the borrowed arguments hold at the end.
use mathlib.Core.Path.{◌≡◌, sym, ◌∙◌}
use mathlib.Core.List.{List}
use Prim.Native.Nat.{ℕ}
use Rattle.rules.specs.Host.{HostOutcome}
use Rattle.host.specs.declared.Settled.{Settled}
use Rattle.host.specs.Settles.{Settles}
use Rattle.image.proofs.load.Reads as load-reads
use Rattle.tables.proofs.keep_rules.Reads as keep-rules-reads
use Rattle.tables.proofs.long_enough.Reads as long-enough-reads
use Rattle.host.proofs.event.Reads as event-reads
use Rattle.host.proofs.door_of.Reads as door-of-reads
use Rattle.host.proofs.seat_of.Reads as seat-of-reads
use Rattle.session.specs.declared.feeder.Fed.{Fed}
use Rattle.session.specs.Feeding.{Progress, Feeds}
use Rattle.session.proofs.begin.Reads as begin-reads
use Rattle.session.proofs.feed.Reads as feed-reads
use Rattle.session.proofs.finish.Reads as finish-reads
use Rattle.text.proofs.parse_line.Reads as parse-line-reads
use Rattle.text.proofs.image_bytes.Reads as image-bytes-reads
use Rattle.text.proofs.numbers_of.Reads as numbers-of-reads
use Rattle.text.proofs.loading_numbers.Reads as loading-numbers-reads
use Rattle.text.proofs.put_answer.Reads as put-answer-reads
use Rattle.text.proofs.put_loading.Reads as put-loading-reads
use Rattle.text.proofs.put_bad.Reads as put-bad-reads

-- image::load: the answer and the tables
pub load_determined : (κs : _) (a : _) (r s : _) (ws vs : _) → load-reads.Post κs a r ws → load-reads.Post κs a s vs → r ≡ s
load_determined κs a r s ws vs p q = p ∙ sym q

-- tables::keep_rules and tables::long_enough: the checks of 101 and 102
pub keep_rules_determined : (κs : _) (a : _) (r s : _) (ws vs : _) → keep-rules-reads.Post κs a r ws → keep-rules-reads.Post κs a s vs → r ≡ s
keep_rules_determined κs a r s ws vs p q = p ∙ sym q

pub long_enough_determined : (κs : _) (a : _) (r s : _) (ws vs : _) → long-enough-reads.Post κs a r ws → long-enough-reads.Post κs a s vs → r ≡ s
long_enough_determined κs a r s ws vs p q = p ∙ sym q

-- what settles as one outcome is one
one_outcome : (o : HostOutcome) (r s : Settled) (m n : List ℕ) → Settles o r m → Settles o s n → (r ≡ s) × (m ≡ n)
one_outcome o r s m n p q =
    ((λ i. record { answer = (p.answer ∙ sym q.answer) i; tables = (p.tables ∙ sym q.tables) i }), p.memory ∙ sym q.memory)

-- host::event: the answer, the tables, and every byte of memory
pub event_determined : (κs : _) (a : _) (r s : _) (ws vs : _) → event-reads.Post κs a r ws → event-reads.Post κs a s vs → (r ≡ s) × (ws.1.0.now ≡ vs.1.0.now)
event_determined κs a r s ws vs p q = one_outcome _ r s _ _ p q

-- its steps: host::door_of and host::seat_of
pub door_of_determined : (κs : _) (a : _) (r s : _) (ws vs : _) → door-of-reads.Post κs a r ws → door-of-reads.Post κs a s vs → r ≡ s
door_of_determined κs a r s ws vs p q = p ∙ sym q

pub seat_of_determined : (κs : _) (a : _) (r s : _) (ws vs : _) → seat-of-reads.Post κs a r ws → seat-of-reads.Post κs a s vs → r ≡ s
seat_of_determined κs a r s ws vs p q = p ∙ sym q

-- text: what a line says, and the bytes of an image and of an answer in the lent buffer
pub parse_line_determined : (κs : _) (a : _) (r s : _) (ws vs : _) → parse-line-reads.Post κs a r ws → parse-line-reads.Post κs a s vs → r ≡ s
parse_line_determined κs a r s ws vs p q = p ∙ sym q

pub image_bytes_determined : (κs : _) (a : _) (r s : _) (ws vs : _) → image-bytes-reads.Post κs a r ws → image-bytes-reads.Post κs a s vs → (r ≡ s) × (ws.1.0.now ≡ vs.1.0.now)
image_bytes_determined κs a r s ws vs p q = (p.0 ∙ sym q.0, p.1 ∙ sym q.1)

pub numbers_of_determined : (κs : _) (a : _) (r s : _) (ws vs : _) → numbers-of-reads.Post κs a r ws → numbers-of-reads.Post κs a s vs → r ≡ s
numbers_of_determined κs a r s ws vs p q = p ∙ sym q

pub loading_numbers_determined : (κs : _) (a : _) (r s : _) (ws vs : _) → loading-numbers-reads.Post κs a r ws → loading-numbers-reads.Post κs a s vs → r ≡ s
loading_numbers_determined κs a r s ws vs p q = p ∙ sym q

pub put_answer_determined : (κs : _) (a : _) (r s : _) (ws vs : _) → put-answer-reads.Post κs a r ws → put-answer-reads.Post κs a s vs → (r ≡ s) × (ws.1.1.0.now ≡ vs.1.1.0.now)
put_answer_determined κs a r s ws vs p q = (p.0 ∙ sym q.0, p.1 ∙ sym q.1)

pub put_loading_determined : (κs : _) (a : _) (r s : _) (ws vs : _) → put-loading-reads.Post κs a r ws → put-loading-reads.Post κs a s vs → (r ≡ s) × (ws.1.1.0.now ≡ vs.1.1.0.now)
put_loading_determined κs a r s ws vs p q = (p.0 ∙ sym q.0, p.1 ∙ sym q.1)

pub put_bad_determined : (κs : _) (a : _) (r s : _) (ws vs : _) → put-bad-reads.Post κs a r ws → put-bad-reads.Post κs a s vs → (r ≡ s) × (ws.1.0.now ≡ vs.1.0.now)
put_bad_determined κs a r s ws vs p q = (p.0 ∙ sym q.0, p.1 ∙ sym q.1)

-- session: what is kept between two pieces of input, the bytes of memory, and the bytes of the answers
pub begin_determined : (κs : _) (a : _) (r s : _) (ws vs : _) → begin-reads.Post κs a r ws → begin-reads.Post κs a s vs → r ≡ s
begin_determined κs a r s ws vs p q = p ∙ sym q

one_progress : (o : Progress) (n : ℕ) (b : List ℕ) (r s : Fed) (m k w v : List ℕ) → Feeds o n b r m w → Feeds o n b s k v → (r ≡ s) × (m ≡ k) × (w ≡ v)
one_progress o n b r s m k w v p q = (
  (λ i. record {
    feeder = record { tables = (p.tables ∙ sym q.tables) i; line = (p.line ∙ sym q.line) i; held = (p.held ∙ sym q.held) i };
    taken = (p.taken ∙ sym q.taken) i;
    written = (p.written ∙ sym q.written) i;
  }),
  p.memory ∙ sym q.memory,
  p.out ∙ sym q.out,
)

pub feed_determined : (κs : _) (a : _) (r s : _) (ws vs : _) → feed-reads.Post κs a r ws → feed-reads.Post κs a s vs
    → (r ≡ s) × (ws.1.0.now ≡ vs.1.0.now) × (ws.1.1.1.0.now ≡ vs.1.1.1.0.now)
feed_determined κs a r s ws vs p q = one_progress _ _ _ r s _ _ _ _ p q

pub finish_determined : (κs : _) (a : _) (r s : _) (ws vs : _) → finish-reads.Post κs a r ws → finish-reads.Post κs a s vs
    → (r ≡ s) × (ws.1.0.now ≡ vs.1.0.now) × (ws.1.1.0.now ≡ vs.1.1.0.now)
finish_determined κs a r s ws vs p q = one_progress _ _ _ r s _ _ _ _ p q
