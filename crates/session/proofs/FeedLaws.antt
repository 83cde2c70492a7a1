-- The loop of `feed`: what its state comes to, byte by byte.
use mathlib.Core.Path.{◌≡◌, refl, sym, ap, ◌∙◌}
use mathlib.Core.Bool.{true}
use mathlib.Core.List.{List, [], ◌∷◌, ◌++◌}
use mathlib.Core.Logic.{◌⊎◌, inl, inr, ⊎_elim}
use Prim.Native.Nat.{ℕ, suc, ◌+◌, ◌-◌, ◌<◌, ◌≤◌, min}
use native.Mathlib.Nat.{zero-add}
use native.Mathlib.Numerals.{add-one}
use native.Mathlib.Omega.{arith}
use lib.ListN.{length, get_or, replicate, set, take, drop, length-append, length-set, drop_of_length-le}
use lib.Dec.{leb}
use lib.Seq.{sets, drop-cons, length-take-le, length-sets}
use borrow.Author.Tests.{eq-eqb, ne_eqb, lt-ltb, le-ltb, le-leb, lt-leb}
use Rattle.rules.specs.declared.Loaded.{Loaded}
use Rattle.rules.specs.declared.Tables.{Tables}
use Rattle.rules.specs.declared.Reply.{Reply}
use Rattle.rules.specs.Image.{load}
use Rattle.rules.proofs.Computing.{computing}
use Rattle.rules.specs.Text.{parse, line_feed}
use Rattle.rules.specs.Session.{text_of, answered}
use Rattle.text.proofs.Stores.{sets_append}
use Rattle.session.specs.declared.feeder.Fed.{Fed}
use Rattle.session.specs.declared.feeder.Feeder.{Feeder}
use Rattle.session.specs.Replies.{reply_text}
use Rattle.session.specs.Feeding.{Progress, next, fed, takes, room, feed_of, line_limit, Feeds, at_first}
use Rattle.session.proofs.ReplyLaws.{reply_most}

abbrev pub at : Tables → List ℕ → List ℕ → ℕ → List ℕ → Progress
at tables memory line held text = record { session = record { tables = tables; memory = memory }; line = line; held = held; text = text }

-- the state before turn i: what is left of the piece makes of it what the whole makes of the start, and `out`, which was `before`,
-- holds the `count` bytes that were printed
pub record Feeding (start : Progress) (piece before : List ℕ) (tables : Tables) (memory line : List ℕ) (held count i : ℕ) (out : List ℕ) : Type 0 where
  pub text : List ℕ
  pub printed : count ≡ length text
  pub stored : out ≡ sets before 0 text
  pub ahead : i + takes (length before) (at tables memory line held text) (drop i piece) ≡ takes (length before) start piece
  pub rest : fed (at tables memory line held text) (take (takes (length before) (at tables memory line held text) (drop i piece)) (drop i piece)) ≡ fed start (take (takes (length before) start piece) piece)

pub feeding_start : (piece before : List ℕ) (tables : Tables) (memory line : List ℕ) (held : ℕ) → Feeding (at tables memory line held []) piece before tables memory line held 0 0 before
feeding_start piece before tables memory line held = record { text = []; printed = refl; stored = refl; ahead = omega arith; rest = refl }

module _ (start : Progress) (piece before : List ℕ) (tables : Tables) (memory line : List ℕ) (held count i : ℕ) (out : List ℕ)
    (f : Feeding start piece before tables memory line held count i out) where
  abbrev here : Progress
  here = at tables memory line held f.text

  module _ (h : i < length piece) (room : count + 96 ≤ length before) (b : ℕ) (e : b ≡ get_or piece i 0) where
    left : drop i piece ≡ b ∷ drop (i + 1) piece
    left = rw (drop-cons piece i 0 h, add-one i, ← e)

    roomy : leb (length f.text + 96) (length before) ≡ true
    roomy = le-leb (length f.text + 96) (length before) (omega (arith, f.printed))

    one_more : takes (length before) here (drop i piece) ≡ suc (takes (length before) (next here b) (drop (i + 1) piece))
    unfolding takes
    one_more = rw (left, roomy)

    turn : fed here (take (takes (length before) here (drop i piece)) (drop i piece)) ≡ fed (next here b) (take (takes (length before) (next here b) (drop (i + 1) piece)) (drop (i + 1) piece))
    unfolding fed
    turn = rw (one_more, left)

    -- the state p after the byte
    module _ (p : Progress) (q : next here b ≡ p) where
      turned : fed p (take (takes (length before) p (drop (i + 1) piece)) (drop (i + 1) piece)) ≡ fed start (take (takes (length before) start piece) piece)
      turned = ap (λ (x : Progress). fed x (take (takes (length before) x (drop (i + 1) piece)) (drop (i + 1) piece))) (sym q) ∙ sym turn ∙ f.rest

      further : (i + 1) + takes (length before) p (drop (i + 1) piece) ≡ takes (length before) start piece
      further = rw (← q) (omega (arith, one_more, f.ahead))

    -- a byte of the line, which is kept or dropped
    module _ (n : b ≡ line_feed → ⊥) where
      pub feeding_push : held < line_limit → Feeding start piece before tables memory (set line held b) (held + 1) count (i + 1) out
      unfolding next
      feeding_push l =
          let p : Progress = at tables memory (set line held b) (held + 1) f.text in
          let q : next here b ≡ p = rw (ne_eqb b line_feed n, lt-ltb held line_limit l, add-one held) in
          record { text = f.text; printed = f.printed; stored = f.stored; ahead = further p q; rest = turned p q }

      pub feeding_drop : line_limit ≤ held → Feeding start piece before tables memory line held count (i + 1) out
      unfolding next
      feeding_drop l =
          let q : next here b ≡ here = rw (ne_eqb b line_feed n, le-ltb held line_limit l) in
          record { text = f.text; printed = f.printed; stored = f.stored; ahead = further here q; rest = turned here q }

    -- the end of the line, and the reply to it
    module _ (n : b ≡ line_feed) (reply : Reply) (tables' : Tables) (memory' : List ℕ)
        (a : answered (record { tables = tables; memory = memory }) (parse (take held line)) ≡ record { session = record { tables = tables'; memory = memory' }; text = text_of reply })
        (r : ℕ) (o : List ℕ) (w : (r ≡ count + length (reply_text reply)) × (o ≡ sets out count (reply_text reply))) where
      ended_text : next here b ≡ at tables' memory' line 0 (f.text ++ reply_text reply)
      unfolding next reply_text
      ended_text = rw (eq-eqb b line_feed n, a)

      pub feeding_reply : Feeding start piece before tables' memory' line 0 r (i + 1) o
      feeding_reply = record {
        text = f.text ++ reply_text reply;
        printed = w.0 ∙ rw (f.printed, length-append);
        stored = w.1 ∙ rw (f.printed, f.stored) (simp zero-add at (sets_append f.text (reply_text reply) before 0));
        ahead = further _ ended_text;
        rest = turned _ ended_text;
      }

  -- the last turn: nothing is left, or there is no room
  module _ (o : (length piece ≤ i) ⊎ (length before < count + 96)) where
    none_taken : takes (length before) here (drop i piece) ≡ 0
    unfolding takes
    none_taken = ⊎_elim (λ h. rw (drop_of_length-le piece {i = i} h)) (λ h. full (drop i piece) h) o
      where
        full : (bs : List ℕ) → length before < count + 96 → takes (length before) here bs ≡ 0
        full [] h = refl
        full (b ∷ bs) h = rw (lt-leb (length f.text + 96) (length before) (omega (arith, f.printed)))

    pub feeding_end : (r : Fed) → r ≡ record { feeder = record { tables = tables; line = line; held = held }; taken = i; written = count }
        → Feeds (fed start (take (takes (length before) start piece) piece)) (takes (length before) start piece) before r memory out
    unfolding fed
    feeding_end r e =
        let done : here ≡ fed start (take (takes (length before) start piece) piece) = rw none_taken at f.rest in
        let all : i ≡ takes (length before) start piece = omega (arith, none_taken, f.ahead) in
        rw (← done, ← all, e) (record { tables = refl; line = refl; held = refl; taken = refl; written = f.printed; memory = refl; out = f.stored })

-- Where the state lies: what was printed has room, and what is lent keeps its length.
pub record Room (piece before memory₀ memory out line : List ℕ) (held count i : ℕ) : Type 0 where
  pub turns : i ≤ length piece
  pub printed : count ≤ length before
  pub kept : held ≤ 2049
  pub line_long : length line ≡ 2049
  pub memory_long : length memory ≡ length memory₀
  pub out_long : length out ≡ length before

pub room_start : (piece out memory line : List ℕ) (held h : ℕ) → held ≡ min h 2049 → length line ≡ 2049 → Room piece out memory memory out line held 0 0
room_start piece out memory line held h f l = record { turns = omega arith; printed = omega arith; kept = omega arith; line_long = l; memory_long = refl; out_long = refl }

-- One turn of the loop.
module _ (start : Progress) (piece before memory₀ : List ℕ) (tables : Tables) (memory line : List ℕ) (held count i : ℕ) (out : List ℕ)
    (s : Room piece before memory₀ memory out line held count i) (f : Feeding start piece before tables memory line held count i out) where
  pub line_taken : held ≡ length (take held line)
  line_taken = sym (length-take-le held line (omega (arith, s.kept, s.line_long)))

  module _ (h : i < length piece) (t : 96 ≤ length out - count) (b : ℕ) (e : b ≡ get_or piece i 0) where
    there : (i < length piece) × (count + 96 ≤ length before)
    there = (h, omega (arith, s.out_long))

    module _ (o : b ≡ line_feed → ⊥) where
      pub turn_push : held < line_limit
          → Room piece before memory₀ memory out (set line held b) (held + 1) count (i + 1)
          × Feeding start piece before tables memory (set line held b) (held + 1) count (i + 1) out
      turn_push l = (
        record {
          turns = omega (arith, there.0);
          printed = s.printed;
          kept = omega arith;
          line_long = length-set line held b ∙ s.line_long;
          memory_long = s.memory_long;
          out_long = s.out_long;
        },
        feeding_push start piece before tables memory line held count i out f there.0 there.1 b e o l,
      )

      pub turn_drop : line_limit ≤ held
          → Room piece before memory₀ memory out line held count (i + 1)
          × Feeding start piece before tables memory line held count (i + 1) out
      turn_drop l = (
        record {
          turns = omega (arith, there.0);
          printed = s.printed;
          kept = s.kept;
          line_long = s.line_long;
          memory_long = s.memory_long;
          out_long = s.out_long;
        },
        feeding_drop start piece before tables memory line held count i out f there.0 there.1 b e o l,
      )

    module _ (o : b ≡ line_feed) (reply : Reply) (tables' : Tables) (memory' : List ℕ) (k : length memory' ≡ length memory)
        (a : answered (record { tables = tables; memory = memory }) (parse (take held line)) ≡ record { session = record { tables = tables'; memory = memory' }; text = text_of reply })
        (r : ℕ) (out' : List ℕ) (w : (r ≡ count + length (reply_text reply)) × (out' ≡ sets out count (reply_text reply))) where
      pub turn_reply : Room piece before memory₀ memory' out' line 0 r (i + 1)
          × Feeding start piece before tables' memory' line 0 r (i + 1) out'
      turn_reply = (
        record {
          turns = omega (arith, there.0);
          printed = omega (arith, there.1, w.0, reply_most reply);
          kept = omega arith;
          line_long = s.line_long;
          memory_long = k ∙ s.memory_long;
          out_long = rw w.1 (length-sets out count (reply_text reply) ∙ s.out_long);
        },
        feeding_reply start piece before tables memory line held count i out f there.0 there.1 b e o reply tables' memory' a r out' w,
      )

  pub turns_done : (length piece ≤ i) ⊎ (length out - count < 96) → (r : Fed) → r ≡ record { feeder = record { tables = tables; line = line; held = held }; taken = i; written = count }
      → Feeds (fed start (take (takes (length before) start piece) piece)) (takes (length before) start piece) before r memory out
  turns_done t r e =
      feeding_end start piece before tables memory line held count i out f
      (⊎_elim (λ h. inl h) (λ h. inr (omega (arith, s.out_long))) t) r e

-- the code's numbers are the definition's
pub feeds_as : (feeder : Feeder) (memory piece out : List ℕ) (held : ℕ) (r : Fed) (m w : List ℕ) → held ≡ min feeder.held 2049
    → Feeds (fed (at feeder.tables memory feeder.line held []) (take (takes (length out) (at feeder.tables memory feeder.line held []) piece) piece)) (takes (length out) (at feeder.tables memory feeder.line held []) piece) out r m w
    → Feeds (feed_of feeder memory piece out) (room feeder memory piece out) out r m w
unfolding feed_of
feeds_as feeder memory piece out held r m w f x = rw (← f) x

-- an image with no bit leaves no guest
pub begins : (r : Loaded) → r ≡ load [] → record { tables = r.tables; line = replicate line_limit 0; held = 0 } ≡ at_first
unfolding at_first computing
begins r e = rw e
