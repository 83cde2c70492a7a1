-- Laws of feeding: what was printed before changes nothing, and the bytes can be fed in two parts.
use Rattle.std.specs.Prelude.{if◌then◌else◌}
use mathlib.Core.Path.{◌≡◌, refl, sym, ap, subst, ◌∙◌}
use mathlib.Core.Bool.{Bool, true, false}
use mathlib.Core.List.{List, [], ◌∷◌, ◌++◌, append_assoc, append-nil}
use Prim.Native.Nat.{ℕ, ◌+◌, ◌-◌, ◌<◌, ◌≤◌, min}
use native.Mathlib.Numerals.{add-one}
use native.Mathlib.Omega.{arith}
use lib.Dec.{eqb, ltb}
use lib.ListN.{length, get_or, take, drop, length-drop, take-append-drop, drop_of_length-le}
use lib.Seq.{drop-cons, drop-drop, take_all}
use borrow.Author.Tests.{ltb-true}
use Rattle.rules.specs.Text.{parse, line_feed}
use Rattle.rules.specs.Session.{Printed, answered}
use Rattle.session.specs.declared.feeder.Fed.{Fed}
use Rattle.session.specs.declared.feeder.Feeder.{Feeder}
use Rattle.session.specs.Feeding.{Progress, ended, pushed, next, fed, room, taken_up, feed_of, Feeds, unprinted, AllFed, line_limit}
use Rattle.session.specs.Pieces.{kept}
use Rattle.session.proofs.Fits.{takes_most, takes_all, takes_some}

-- A feeder that has printed something does what it would have done without.
abbrev pub prefixed : List ℕ → Progress → Progress
prefixed t p = record { session = p.session; line = p.line; held = p.held; text = t ++ p.text }

next_prefixed : (t : List ℕ) (p : Progress) (b : ℕ) → next (prefixed t p) b ≡ prefixed t (next p b)
unfolding next
next_prefixed t p b = go (eqb b line_feed) (ltb p.held line_limit)
  where
    one : Printed
    one = answered p.session (parse (take p.held p.line))

    go : (x y : Bool) → (if x then ended (prefixed t p) one else if y then pushed (prefixed t p) b else prefixed t p) ≡ prefixed t (if x then ended p one else if y then pushed p b else p)
    go true y = λ i. record { session = one.session; line = p.line; held = 0; text = append_assoc t p.text (one.text ++ (line_feed ∷ [])) i }
    go false true = refl
    go false false = refl

pub fed_prefixed : (bs t : List ℕ) (p : Progress) → fed (prefixed t p) bs ≡ prefixed t (fed p bs)
unfolding fed
fed_prefixed [] t p = refl
fed_prefixed (b ∷ bs) t p = ap (λ (q : Progress). fed q bs) (next_prefixed t p b) ∙ fed_prefixed bs t (next p b)

pub fed_append : (xs ys : List ℕ) (p : Progress) → fed p (xs ++ ys) ≡ fed (fed p xs) ys
unfolding fed
fed_append [] ys p = refl
fed_append (x ∷ xs) ys p = fed_append xs ys (next p x)

-- no more of a line is held than is kept of one
next_held : (p : Progress) (b : ℕ) → p.held ≤ line_limit → (next p b).held ≤ line_limit
unfolding next
next_held p b h = go (eqb b line_feed) (ltb p.held line_limit) refl
  where
    one : Printed
    one = answered p.session (parse (take p.held p.line))

    go : (x y : Bool) → ltb p.held line_limit ≡ y → (if x then ended p one else if y then pushed p b else p).held ≤ line_limit
    go true y e = omega arith
    go false true e = omega (arith, ltb-true p.held line_limit e)
    go false false e = h

pub fed_held : (bs : List ℕ) (p : Progress) → p.held ≤ line_limit → (fed p bs).held ≤ line_limit
unfolding fed
fed_held [] p h = h
fed_held (b ∷ bs) p h = fed_held bs (next p b) (next_held p b h)

-- what is kept of a piece is what the next one starts from
pub taken_again : (p : Progress) → p.held ≤ line_limit → taken_up (kept p) p.session.memory ≡ unprinted p
taken_again p h =
    let e : min p.held line_limit ≡ p.held = omega arith in
    λ i. record { session = p.session; line = p.line; held = e i; text = [] }

-- what was printed before a byte does not change what it leaves
fed_unprinted : (q : Progress) (bs : List ℕ) → unprinted (fed (unprinted q) bs) ≡ unprinted (fed q bs)
fed_unprinted q bs =
    let same : prefixed q.text (unprinted q) ≡ q = λ i. record { session = q.session; line = q.line; held = q.held; text = append-nil q.text i } in
    ap unprinted (sym (fed_prefixed bs q.text (unprinted q)) ∙ ap (λ (x : Progress). fed x bs) same)

-- what a feed leaves of a piece, fed to the feeder that it gives, comes to what the whole piece comes to
module _ (feeder : Feeder) (memory piece out : List ℕ) (r : Fed) (m w : List ℕ) (f : Feeds (feed_of feeder memory piece out) (room feeder memory piece out) out r m w) where
  abbrev part : Progress
  part = fed (taken_up feeder memory) (take (room feeder memory piece out) piece)

  on_from : taken_up r.feeder m ≡ unprinted part
  unfolding feed_of
  on_from =
      let few : part.held ≤ line_limit = fed_held (take (room feeder memory piece out) piece) (taken_up feeder memory) (omega arith) in
      let e : min r.feeder.held line_limit ≡ part.held = omega (arith, f.held) in
      λ i. record { session = record { tables = f.tables i; memory = f.memory i }; line = f.line i; held = e i; text = [] }

  pub fed_on : unprinted (fed (taken_up r.feeder m) (drop r.taken piece)) ≡ unprinted (fed (taken_up feeder memory) piece)
  fed_on =
      rw (on_from, f.taken)
      (fed_unprinted part (drop (room feeder memory piece out) piece)
      ∙ ap unprinted (sym (fed_append (take (room feeder memory piece out) piece) (drop (room feeder memory piece out) piece) (taken_up feeder memory)) ∙ ap (fed (taken_up feeder memory)) (take-append-drop (room feeder memory piece out) piece)))

-- what a feed leaves of what it is lent
abbrev FedOf : Feeder → List ℕ → List ℕ → Fed → List ℕ → List ℕ → List ℕ → Type 0
FedOf feeder memory out r m w left = Feeds (feed_of feeder memory left out) (room feeder memory left out) out r m w

-- a piece of which `from` bytes have been fed, and then some more. What is left is lent as a part of the piece that has its length.
module _ (whole : Progress) (piece : List ℕ) (from : ℕ) (feeder : Feeder) (memory : List ℕ) (rest : unprinted (fed (taken_up feeder memory) (drop from piece)) ≡ whole)
    (out : List ℕ) (r : Fed) (m w : List ℕ) (f : FedOf feeder memory out r m w (take (length piece - from) (drop from piece))) where
  lent : take (length piece - from) (drop from piece) ≡ drop from piece
  lent = take_all (length piece - from) (drop from piece) (omega (arith, length-drop from piece))

  fed_left : FedOf feeder memory out r m w (drop from piece)
  fed_left = subst (FedOf feeder memory out r m w) lent f

  pub more_fed : unprinted (fed (taken_up r.feeder m) (drop (from + r.taken) piece)) ≡ whole
  more_fed = ap (λ (bs : List ℕ). unprinted (fed (taken_up r.feeder m) bs)) (sym (drop-drop r.taken from piece)) ∙ fed_on feeder memory (drop from piece) out r m w fed_left ∙ rest

  pub more_within : from ≤ length piece → from + r.taken ≤ length piece
  more_within h = omega (arith, fed_left.taken, takes_most (length out) (drop from piece) (taken_up feeder memory), length-drop from piece)

  pub more_taken : from < length piece → 96 ≤ length out → 0 < r.taken
  more_taken h l =
      let some = takes_some (length out) (drop from piece) (taken_up feeder memory) (omega (arith, length-drop from piece)) (omega arith) in
      omega (arith, fed_left.taken, some)

-- a piece of which nothing is left has been fed whole
pub none_left : (feeder after : Feeder) (memory memory' piece : List ℕ) (from : ℕ) → length piece ≤ from
    → unprinted (fed (taken_up after memory') (drop from piece)) ≡ unprinted (fed (taken_up feeder memory) piece) → AllFed feeder memory piece after memory'
unfolding fed
none_left feeder after memory memory' piece from h e = rw (drop_of_length-le piece {i = from} h) at e

-- a part that has been fed whole, and what stands behind it
pub fed_behind : (feeder after : Feeder) (memory memory' part behind : List ℕ) → AllFed feeder memory part after memory'
    → unprinted (fed (taken_up after memory') behind) ≡ unprinted (fed (taken_up feeder memory) (part ++ behind))
fed_behind feeder after memory memory' part behind e =
    rw e (fed_unprinted (fed (taken_up feeder memory) part) behind) ∙ ap unprinted (sym (fed_append part behind (taken_up feeder memory)))

-- the end of a line, by itself
pub end_fed : (feeder : Feeder) (memory out : List ℕ) (r : Fed) (m w : List ℕ) → 96 ≤ length out
    → Feeds (feed_of feeder memory (line_feed ∷ []) out) (room feeder memory (line_feed ∷ []) out) out r m w → AllFed feeder memory (line_feed ∷ []) r.feeder m
end_fed feeder memory out r m w l f = none_left feeder r.feeder memory m (line_feed ∷ []) r.taken (omega (arith, f.taken, takes_all (length out) (line_feed ∷ []) (taken_up feeder memory) (omega arith))) (fed_on feeder memory (line_feed ∷ []) out r m w f)

-- a piece in parts: what stands from a place on is a part and what stands behind it
pub step_fed : (whole : Progress) (piece part : List ℕ) (from to : ℕ) (feeder after : Feeder) (memory memory' : List ℕ) → unprinted (fed (taken_up feeder memory) (drop from piece)) ≡ whole
    → AllFed feeder memory part after memory' → drop from piece ≡ part ++ drop to piece → unprinted (fed (taken_up after memory') (drop to piece)) ≡ whole
step_fed whole piece part from to feeder after memory memory' rest f e =
    fed_behind feeder after memory memory' part (drop to piece) f ∙ ap (λ (bs : List ℕ). unprinted (fed (taken_up feeder memory) bs)) (sym e) ∙ rest

-- the part is a line feed
pub end_split : (piece : List ℕ) (from : ℕ) → from < length piece → get_or piece from 0 ≡ line_feed → drop from piece ≡ (line_feed ∷ []) ++ drop (from + 1) piece
end_split piece from h e = rw (add-one from, drop-cons piece from 0 h, e)

-- the part goes to another place
pub part_split : (piece : List ℕ) (from to : ℕ) → from ≤ to → drop from piece ≡ take (to - from) (drop from piece) ++ drop to piece
part_split piece from to h =
    let e : from + (to - from) ≡ to = omega arith in
    sym (take-append-drop (to - from) (drop from piece)) ∙ ap (λ (bs : List ℕ). take (to - from) (drop from piece) ++ bs) (drop-drop (to - from) from piece ∙ ap (λ (k : ℕ). drop k piece) e)
