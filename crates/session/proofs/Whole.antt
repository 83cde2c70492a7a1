-- Promise: input in pieces of any size prints what the whole input prints.
use Rattle.std.specs.Prelude.{if◌then◌else◌}
use mathlib.Core.Path.{◌≡◌, refl, sym, ap, ◌∙◌}
use mathlib.Core.Bool.{Bool, true, false}
use mathlib.Core.List.{List, [], ◌∷◌, ◌++◌, append_assoc, append-nil}
use Prim.Native.Nat.{ℕ, zero, suc, ◌*◌, ◌<◌, ◌≤◌, min}
use native.Mathlib.Omega.{arith}
use lib.Dec.{eqb, ltb, leb}
use lib.ListN.{length, replicate, take, length-append, length-set, length-replicate}
use lib.Seq.{take_all, take-suc-set, take-append-le, length-take-le}
use borrow.Author.Tests.{leb-true, leb-false, ltb-true, ltb-false, lt-leb}
use Rattle.rules.specs.Text.{parse, line_feed}
use Rattle.rules.specs.Session.{Printed, begin, answered, lines_from, printed, output}
use Rattle.session.specs.declared.feeder.Feeder.{Feeder}
use Rattle.session.specs.Feeding.{Progress, ended, pushed, next, fed, room, taken_up, feed_of, at_first, ending, unprinted, line_limit}
use Rattle.session.specs.Pieces.{kept, in_pieces, joined_up, Roomy}
use Rattle.session.proofs.Fits.{takes_all}
use Rattle.session.proofs.InParts.{prefixed, fed_prefixed, fed_append, fed_held, taken_again}

-- what is cut off a line that is too long is not missed
cut : (line : List ℕ) → parse (take line_limit line) ≡ parse line
unfolding parse
cut line = go (leb (length line) line_limit) refl
  where
    go : (t : Bool) → leb (length line) line_limit ≡ t → parse (take line_limit line) ≡ parse line
    go true e = ap parse (take_all line_limit line (leb-true _ _ e))
    go false e =
        let g : line_limit < length line = leb-false (length line) line_limit e in
        let l : length (take line_limit line) ≡ line_limit = length-take-le line_limit line (omega arith) in
        rw (lt-leb (length (take line_limit line)) 2048 (omega arith), lt-leb (length line) 2048 (omega arith))

-- a feeder holds the front of the line so far
pub record Holds (p : Progress) (line : List ℕ) : Type 0 where
  pub long : length p.line ≡ line_limit
  pub count : p.held ≡ min (length line) line_limit
  pub front : take p.held p.line ≡ take line_limit line

holds_none : (p : Progress) → length p.line ≡ line_limit → p.held ≡ 0 → Holds p []
holds_none p l e = record { long = l; count = e; front = rw e }

module _ (p : Progress) (line : List ℕ) (h : Holds p line) (b : ℕ) where
  holds_push : p.held < line_limit → Holds (pushed p b) (line ++ (b ∷ []))
  holds_push l =
      let few : length line < line_limit = omega (arith, h.count) in
      let more : length (line ++ (b ∷ [])) ≡ suc (length line) = length-append line (b ∷ []) ∙ omega arith in
      record {
        long = length-set p.line p.held b ∙ h.long;
        count = omega (arith, h.count, more);
        front = take-suc-set p.line p.held b (omega (arith, h.long)) ∙ rw (h.front, take_all line_limit line (omega arith), take_all line_limit (line ++ (b ∷ [])) (omega arith));
      }

  holds_drop : line_limit ≤ p.held → Holds p (line ++ (b ∷ []))
  holds_drop l =
      let much : line_limit ≤ length line = omega (arith, h.count) in
      record {
        long = h.long;
        count = omega (arith, h.count, length-append line (b ∷ []));
        front = h.front ∙ sym (take-append-le line_limit line (b ∷ []) much);
      }

  answer_same : answered p.session (parse (take p.held p.line)) ≡ answered p.session (parse line)
  answer_same = ap (answered p.session) (ap parse h.front ∙ cut line)

-- the end of the input ends a line that has been begun
abbrev finished : Progress → Progress
finished p = fed p (ending p.held)

module _ (p : Progress) where
  end_none : p.held ≡ 0 → (finished p).text ≡ p.text ++ (printed p.session (lines_from [] [])).text
  unfolding fed ending lines_from printed
  end_none e = ap (λ (n : ℕ). (fed p (ending n)).text) e ∙ sym (append-nil p.text)

  end_line : (c : ℕ) (cs : List ℕ) → Holds p (c ∷ cs) → (finished p).text ≡ p.text ++ (printed p.session (lines_from (c ∷ cs) [])).text
  unfolding fed next ending lines_from printed
  end_line c cs h = go p.held refl
    where
      go : (n : ℕ) → p.held ≡ n → (finished p).text ≡ p.text ++ (printed p.session (lines_from (c ∷ cs) [])).text
      go zero e = absurd (omega (arith, h.count))
      go (suc n) e = ap (λ (n : ℕ). (fed p (ending n)).text) e ∙ ap (λ (one : Printed). (ended p one).text) (answer_same p (c ∷ cs) h line_feed)

-- a line's next byte, whatever stands before it
lines_more : (line : List ℕ) (b : ℕ) (bs : List ℕ) → lines_from line (b ∷ bs) ≡ (if eqb b line_feed then line ∷ lines_from [] bs else lines_from (line ++ (b ∷ [])) bs)
unfolding lines_from
lines_more [] b bs = refl
lines_more (c ∷ cs) b bs = refl

-- one byte more, where the bytes behind it print what their lines print
module _ (b : ℕ) (bs : List ℕ) (p : Progress) (line : List ℕ) (h : Holds p line)
    (rest : (q : Progress) (l : List ℕ) → Holds q l → (finished (fed q bs)).text ≡ q.text ++ (printed q.session (lines_from l bs)).text) where
  abbrev one : Printed
  one = answered p.session (parse line)

  step_line : eqb b line_feed ≡ true → (finished (fed (next p b) bs)).text ≡ p.text ++ (printed p.session (line ∷ lines_from [] bs)).text
  unfolding next printed
  step_line e =
      rw (e, answer_same p line h b)
      (rest (ended p one) [] (holds_none (ended p one) h.long refl)
      ∙ (append_assoc p.text (one.text ++ (line_feed ∷ [])) (printed one.session (lines_from [] bs)).text
      ∙ ap (λ (l : List ℕ). p.text ++ l) (append_assoc one.text (line_feed ∷ []) (printed one.session (lines_from [] bs)).text)))

  step_push : eqb b line_feed ≡ false → ltb p.held line_limit ≡ true → (finished (fed (next p b) bs)).text ≡ p.text ++ (printed p.session (lines_from (line ++ (b ∷ [])) bs)).text
  unfolding next
  step_push e l = rw (e, l) (rest (pushed p b) (line ++ (b ∷ [])) (holds_push p line h b (ltb-true _ _ l)))

  step_drop : eqb b line_feed ≡ false → ltb p.held line_limit ≡ false → (finished (fed (next p b) bs)).text ≡ p.text ++ (printed p.session (lines_from (line ++ (b ∷ [])) bs)).text
  unfolding next
  step_drop e l = rw (e, l) (rest p (line ++ (b ∷ [])) (holds_drop p line h b (ltb-false _ _ l)))

  step_prints : (finished (fed p (b ∷ bs))).text ≡ p.text ++ (printed p.session (lines_from line (b ∷ bs))).text
  unfolding fed
  step_prints = go (eqb b line_feed) refl (ltb p.held line_limit) refl
    where
      go : (t : Bool) → eqb b line_feed ≡ t → (u : Bool) → ltb p.held line_limit ≡ u → (finished (fed (next p b) bs)).text ≡ p.text ++ (printed p.session (lines_from line (b ∷ bs))).text
      go true e u f = rw (lines_more line b bs, e) (step_line e)
      go false e true f = rw (lines_more line b bs, e) (step_push e f)
      go false e false f = rw (lines_more line b bs, e) (step_drop e f)

-- what is left of the input prints what its lines print
rest_prints : (bs : List ℕ) (p : Progress) (line : List ℕ) → Holds p line → (finished (fed p bs)).text ≡ p.text ++ (printed p.session (lines_from line bs)).text
unfolding fed
rest_prints [] p [] h = end_none p h.count
rest_prints [] p (c ∷ cs) h = end_line p c cs h
rest_prints (b ∷ bs) p line h = step_prints b bs p line h (λ q l k. rest_prints bs q l k)

-- a piece that has room is taken whole
taken_whole : (feeder : Feeder) (memory piece out : List ℕ) → 96 * length piece ≤ length out → feed_of feeder memory piece out ≡ fed (taken_up feeder memory) piece
unfolding feed_of
taken_whole feeder memory piece out r =
    ap (fed (taken_up feeder memory)) (take_all (room feeder memory piece out) piece (omega (arith, takes_all (length out) piece (taken_up feeder memory) (omega arith))))

ending_short : (n : ℕ) → length (ending n) ≤ 1
unfolding ending
ending_short zero = omega arith
ending_short (suc n) = omega arith

-- the text before is in front of what is printed
in_front : (p : Progress) (bs : List ℕ) → p.text ++ (finished (fed (unprinted p) bs)).text ≡ (finished (fed p bs)).text
in_front p bs =
    let q : Progress = fed (unprinted p) bs in
    let same : prefixed p.text (unprinted p) ≡ p = λ i. record { session = p.session; line = p.line; held = p.held; text = append-nil p.text i } in
    let all : prefixed p.text q ≡ fed p bs = sym (fed_prefixed bs p.text (unprinted p)) ∙ ap (λ (x : Progress). fed x bs) same in
    ap (λ (x : Progress). x.text) (sym (fed_prefixed (ending q.held) p.text q)) ∙ ap (λ (x : Progress). (finished x).text) all

module _ (out : List ℕ) where
  -- one piece more, where those behind it print what they would in one
  module _ (piece : List ℕ) (feeder : Feeder) (memory : List ℕ) (h : feeder.held ≤ line_limit) (r : 96 * length piece ≤ length out) (left : List ℕ) (pieces : List (List ℕ))
      (rest : (f : Feeder) (m : List ℕ) → f.held ≤ line_limit → in_pieces out f m pieces ≡ (finished (fed (taken_up f m) left)).text) where
    abbrev whole : Progress
    whole = fed (taken_up feeder memory) piece

    abbrev part : Progress
    part = feed_of feeder memory piece out

    few : whole.held ≤ line_limit
    few = fed_held piece (taken_up feeder memory) (omega arith)

    first : part.text ++ in_pieces out (kept part) part.session.memory pieces ≡ whole.text ++ in_pieces out (kept whole) whole.session.memory pieces
    first = ap (λ (p : Progress). p.text ++ in_pieces out (kept p) p.session.memory pieces) (taken_whole feeder memory piece out r)

    behind : in_pieces out (kept whole) whole.session.memory pieces ≡ (finished (fed (unprinted whole) left)).text
    behind = rest (kept whole) whole.session.memory few ∙ ap (λ (p : Progress). (finished (fed p left)).text) (taken_again whole few)

    piece_prints : part.text ++ in_pieces out (kept part) part.session.memory pieces ≡ (finished (fed (taken_up feeder memory) (piece ++ left))).text
    piece_prints =
        first ∙ ap (λ (l : List ℕ). whole.text ++ l) behind ∙ in_front whole left ∙ ap (λ (p : Progress). (finished p).text) (sym (fed_append piece left (taken_up feeder memory)))

  pieces_print : (pieces : List (List ℕ)) (feeder : Feeder) (memory : List ℕ) → feeder.held ≤ line_limit → Roomy out pieces
      → in_pieces out feeder memory pieces ≡ (finished (fed (taken_up feeder memory) (joined_up pieces))).text
  unfolding in_pieces joined_up Roomy fed
  pieces_print [] feeder memory h r =
      let e : feeder.held ≡ min feeder.held line_limit = omega arith in
      ap (λ (p : Progress). p.text) (taken_whole feeder memory (ending feeder.held) out (omega (arith, ending_short feeder.held)))
      ∙ ap (λ (n : ℕ). (fed (taken_up feeder memory) (ending n)).text) e
  pieces_print (piece ∷ pieces) feeder memory h r =
      piece_prints piece feeder memory h r.0 (joined_up pieces) pieces (λ f m k. pieces_print pieces f m k r.1)

-- The whole input, in pieces of any size that have room for their answers: the program's output is the paper's.
pub in_pieces_lem : (out : List ℕ) (pieces : List (List ℕ)) → Roomy out pieces → in_pieces out at_first (replicate 32768 0) pieces ≡ output (joined_up pieces)
unfolding output begin at_first
in_pieces_lem out pieces r =
    pieces_print out pieces at_first (replicate 32768 0) (omega arith) r
    ∙ rest_prints (joined_up pieces) (taken_up at_first (replicate 32768 0)) [] (holds_none (taken_up at_first (replicate 32768 0)) (length-replicate {A = ℕ} line_limit 0) refl)
