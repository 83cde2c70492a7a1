-- The answers to what is taken of a piece have room in the buffer.
use Rattle.std.specs.Prelude.{if◌then◌else◌}
use mathlib.Core.Path.{◌≡◌, refl, sym, ap}
use mathlib.Core.Bool.{Bool, true, false}
use mathlib.Core.List.{List, [], ◌∷◌, ◌++◌}
use Prim.Native.Nat.{ℕ, suc, ◌+◌, ◌*◌, ◌≤◌, ◌<◌}
use native.Mathlib.Omega.{arith}
use lib.Dec.{eqb, leb, ltb}
use borrow.Author.Tests.{le-leb, leb-true}
use lib.ListN.{length, take, length-append}
use lib.Seq.{length-take-le, length-sets}
use Rattle.rules.specs.declared.Answer.{Answer}
use Rattle.rules.specs.Types.{Loading}
use Rattle.rules.specs.Image.{load}
use Rattle.rules.specs.Host.{host_event}
use Rattle.rules.specs.Statuses.{numbers, loading_numbers}
use Rattle.rules.specs.Text.{Line, bad, image, event, parse, line_feed, spaced}
use Rattle.rules.specs.Session.{Session, replied, text_of, answered}
use Rattle.text.specs.Printed.{loading_text, answer_text}
use Rattle.text.proofs.PrintLaws.{answer_most, loading_most}
use Rattle.session.specs.declared.feeder.Fed.{Fed}
use Rattle.session.specs.declared.feeder.Feeder.{Feeder}
use Rattle.session.specs.Feeding.{Progress, pushed, ended, next, fed, takes, taken_up, feed_of, Feeds, line_limit}

-- an answer has at most 84 bytes, and its line feed
loading_few : (a : Loading) → length (spaced (loading_numbers a)) ≤ 84
unfolding loading_text
loading_few a = omega (arith, rw length-append at (loading_most a))

event_few : (a : Answer) → length (spaced (numbers a)) ≤ 84
unfolding answer_text
event_few a = omega (arith, rw length-append at (answer_most a))

answer_few : (s : Session) (l : Line) → length (answered s l).text ≤ 84
unfolding answered replied text_of
answer_few s bad = omega arith
answer_few s (image bytes) = loading_few (load bytes).answer
answer_few s (event e) = event_few (host_event s.tables s.memory e).answer

next_few : (p : Progress) (b : ℕ) → length (next p b).text ≤ length p.text + 96
unfolding next
next_few p b = go (eqb b line_feed) (ltb p.held line_limit)
  where
    one : List ℕ
    one = (answered p.session (parse (take p.held p.line))).text

    go : (t u : Bool) → length (if t then ended p (answered p.session (parse (take p.held p.line))) else if u then pushed p b else p).text ≤ length p.text + 96
    go true u = rw (length-append p.text (one ++ (line_feed ∷ [])), length-append one (line_feed ∷ [])) (omega (arith, answer_few p.session (parse (take p.held p.line))))
    go false true = omega arith
    go false false = omega arith

-- what is taken is no more than there is, has room, and is all where there is room for an answer to each byte
module _ (size : ℕ) where
  pub takes_most : (bs : List ℕ) (p : Progress) → takes size p bs ≤ length bs
  unfolding takes
  takes_most [] p = omega arith
  takes_most (b ∷ bs) p = go (leb (length p.text + 96) size) (takes_most bs (next p b))
    where
      go : (t : Bool) → takes size (next p b) bs ≤ length bs → (if t then suc (takes size (next p b) bs) else 0) ≤ suc (length bs)
      go true h = omega arith
      go false h = omega arith

  pub takes_all : (bs : List ℕ) (p : Progress) → length p.text + 96 * length bs ≤ size → takes size p bs ≡ length bs
  unfolding takes
  takes_all [] p h = refl
  takes_all (b ∷ bs) p h = rw (le-leb (length p.text + 96) size (omega arith)) (ap suc (takes_all bs (next p b) (omega (arith, next_few p b))))

  pub takes_some : (bs : List ℕ) (p : Progress) → 0 < length bs → length p.text + 96 ≤ size → 0 < takes size p bs
  unfolding takes
  takes_some [] p h r = absurd (omega arith)
  takes_some (b ∷ bs) p h r = rw (le-leb (length p.text + 96) size r) (omega arith)

  takes_fits : (bs : List ℕ) (p : Progress) → length p.text ≤ size → length (fed p (take (takes size p bs) bs)).text ≤ size
  unfolding fed takes
  takes_fits [] p h = h
  takes_fits (b ∷ bs) p h = go (leb (length p.text + 96) size) refl (takes_fits bs (next p b))
    where
      go : (t : Bool) → leb (length p.text + 96) size ≡ t → (length (next p b).text ≤ size → length (fed (next p b) (take (takes size (next p b) bs) bs)).text ≤ size)
          → length (fed p (take (if t then suc (takes size (next p b) bs) else 0) (b ∷ bs))).text ≤ size
      go true e rest = rest (omega (arith, next_few p b, leb-true (length p.text + 96) size e))
      go false e rest = h

pub feed_fits : (feeder : Feeder) (memory piece out : List ℕ) → length (feed_of feeder memory piece out).text ≤ length out
unfolding feed_of
feed_fits feeder memory piece out = takes_fits (length out) piece (taken_up feeder memory) (omega arith)

-- so the front of the buffer that holds them can be lent
module _ (feeder : Feeder) (memory piece out : List ℕ) (n : ℕ) (r : Fed) (m w : List ℕ) (f : Feeds (feed_of feeder memory piece out) n out r m w) where
  pub written_fits : r.written ≤ length w
  written_fits = rw (f.written, f.out, length-sets) (feed_fits feeder memory piece out)

  pub written_taken : r.written ≡ length (take r.written w)
  written_taken = sym (length-take-le r.written w written_fits)
