-- The line at each return of the event's code, from the tests on the way: t is what the code's test of a word came to.
use Rattle.std.specs.Prelude.{if◌then◌else◌}
use mathlib.Core.Bool.{Bool, true, false, ◌&&◌}
use mathlib.Core.Path.{◌≡◌, refl, sym, ◌∙◌}
use mathlib.Core.List.{List}
use mathlib.Core.Logic.{⊎_elim}
use Prim.Native.Nat.{ℕ, ◌≤◌}
use lib.Dec.{leb, eqb}
use lib.ListN.{length, get_or, take, get_or-eq_default}
use lib.Seq.{get_or-take, length-take-le}
use borrow.Author.Tests.{eq-eqb, eqb-true, le-leb, leb-true}
use Rattle.rules.specs.declared.Call.{Call}
use Rattle.rules.specs.declared.HeadWrite.{HeadWrite}
use Rattle.rules.specs.declared.Device.{Device}
use Rattle.rules.specs.declared.LoadAt.{LoadAt}
use Rattle.rules.specs.declared.StoreAt.{StoreAt}
use Rattle.rules.specs.declared.TsbHit.{TsbHit}
use Rattle.rules.specs.declared.Event.{Event}
use Rattle.rules.specs.Scan.{◌is_from◌to◌}
use Rattle.rules.specs.Text.{Line, bad, event, call_word, word_head, word_raise, word_load, word_store, word_hit, same, call_of, head_of, device_of, load_of, store_of, hit_of, event_line}
use Rattle.text.specs.declared.line.Line.{Line as Told}
use Rattle.text.specs.Gathered.{ZeroFrom}
use Rattle.text.specs.Lines.{told}
use Rattle.rules.proofs.Tests.{lt_or_ge, and_left, and_right}
use Rattle.text.proofs.Same.{same_eq, text_three, text_four, text_five}

-- the first n numbers, where those behind them are zeros
pub first_of : (ns : List ℕ) (n : ℕ) → n ≤ length ns → ZeroFrom n ns → (k : ℕ) → get_or (take n ns) k 0 ≡ get_or ns k 0
first_of ns n h z k =
    ⊎_elim (λ l. get_or-take n ns k 0 l)
    (λ g. get_or-eq_default (take n ns) 0 (rw (length-take-le n ns h) g) ∙ sym (z k g))
    (lt_or_ge k n)

-- a line whose word is none of an image's is bad, or says an event
one_of : (P : Line → Type 0) (t : Bool) (x y : Line) → P x → P y → P (if t then x else y)
one_of P true x y p q = p
one_of P false x y p q = q

pub event_or_bad : (P : Line → Type 0) → P bad → ((e : Event) → P (event e)) → (word ns : List ℕ) → P (event_line word ns)
unfolding event_line
event_or_bad P b e word ns =
    let n : ℕ = length ns in
    one_of P (same word call_word && (n is_from 4 to 9)) _ _ (e _)
    (one_of P (same word word_head && eqb n 4) _ _ (e _)
    (one_of P (same word word_raise && eqb n 2) _ _ (e _)
    (one_of P (same word word_load && eqb n 2) _ _ (e _)
    (one_of P (same word word_store && eqb n 3) _ _ (e _)
    (one_of P (same word word_hit && eqb n 6) _ _ (e _) b)))))

-- a test of a word and of a number that cannot both be true
no_test : (t u : Bool) → (t ≡ true → u ≡ true → ⊥) → (t && u) ≡ false
no_test true true f = absurd (f refl refl)
no_test true false f = refl
no_test false u f = refl

-- the line, by the length and the bytes of a word that a match tells, and by the number of numbers
module _ (word ns : List ℕ) (n : ℕ) (pre : (n ≤ length ns) × ZeroFrom n ns) where
  size : length (take n ns) ≡ n
  size = length-take-le n ns pre.0

  at : (k : ℕ) → get_or (take n ns) k 0 ≡ get_or ns k 0
  at = first_of ns n pre.0 pre.1

  pub event_call : length word ≡ 4 → get_or word 0 0 ≡ 99 → get_or word 1 0 ≡ 97 → get_or word 2 0 ≡ 108 → get_or word 3 0 ≡ 108 → 4 ≤ n → n ≤ 9 → (r : Call) → r ≡ call_of ns → Told.Event (Event.Call r) ≡ told (event_line word (take n ns))
  unfolding event_line told same
  event_call l h0 h1 h2 h3 a b r e = rw (size, text_four word l, h0, h1, h2, h3, le-leb 4 n a, le-leb n 9 b, e) (simp at)

  pub event_head : length word ≡ 4 → get_or word 0 0 ≡ 104 → get_or word 1 0 ≡ 101 → get_or word 2 0 ≡ 97 → get_or word 3 0 ≡ 100 → n ≡ 4 → (r : HeadWrite) → r ≡ head_of ns → Told.Event (Event.Head r) ≡ told (event_line word (take n ns))
  unfolding event_line told same
  event_head l h0 h1 h2 h3 q r e = rw (size, text_four word l, h0, h1, h2, h3, eq-eqb n 4 q, e) (simp at)

  pub event_raise : length word ≡ 5 → get_or word 0 0 ≡ 114 → get_or word 1 0 ≡ 97 → get_or word 2 0 ≡ 105 → get_or word 3 0 ≡ 115 → get_or word 4 0 ≡ 101 → n ≡ 2 → (r : Device) → r ≡ device_of ns → Told.Event (Event.Raise r) ≡ told (event_line word (take n ns))
  unfolding event_line told same
  event_raise l h0 h1 h2 h3 h4 q r e = rw (size, text_five word l, h0, h1, h2, h3, h4, eq-eqb n 2 q, e) (simp at)

  pub event_load : length word ≡ 4 → get_or word 0 0 ≡ 108 → get_or word 1 0 ≡ 111 → get_or word 2 0 ≡ 97 → get_or word 3 0 ≡ 100 → n ≡ 2 → (r : LoadAt) → r ≡ load_of ns → Told.Event (Event.Load r) ≡ told (event_line word (take n ns))
  unfolding event_line told same
  event_load l h0 h1 h2 h3 q r e = rw (size, text_four word l, h0, h1, h2, h3, eq-eqb n 2 q, e) (simp at)

  pub event_store : length word ≡ 5 → get_or word 0 0 ≡ 115 → get_or word 1 0 ≡ 116 → get_or word 2 0 ≡ 111 → get_or word 3 0 ≡ 114 → get_or word 4 0 ≡ 101 → n ≡ 3 → (r : StoreAt) → r ≡ store_of ns → Told.Event (Event.Store r) ≡ told (event_line word (take n ns))
  unfolding event_line told same
  event_store l h0 h1 h2 h3 h4 q r e = rw (size, text_five word l, h0, h1, h2, h3, h4, eq-eqb n 3 q, e) (simp at)

  pub event_hit : length word ≡ 3 → get_or word 0 0 ≡ 104 → get_or word 1 0 ≡ 105 → get_or word 2 0 ≡ 116 → n ≡ 6 → (r : TsbHit) → r ≡ hit_of ns → Told.Event (Event.Hit r) ≡ told (event_line word (take n ns))
  unfolding event_line told same
  event_hit l h0 h1 h2 q r e = rw (size, text_three word l, h0, h1, h2, eq-eqb n 6 q, e) (simp at)

  pub event_none :
      (length word ≡ 4 → get_or word 0 0 ≡ 99 → get_or word 1 0 ≡ 97 → get_or word 2 0 ≡ 108 → get_or word 3 0 ≡ 108 → 4 ≤ n → n ≤ 9 → ⊥)
      → (length word ≡ 4 → get_or word 0 0 ≡ 104 → get_or word 1 0 ≡ 101 → get_or word 2 0 ≡ 97 → get_or word 3 0 ≡ 100 → n ≡ 4 → ⊥)
      → (length word ≡ 5 → get_or word 0 0 ≡ 114 → get_or word 1 0 ≡ 97 → get_or word 2 0 ≡ 105 → get_or word 3 0 ≡ 115 → get_or word 4 0 ≡ 101 → n ≡ 2 → ⊥)
      → (length word ≡ 4 → get_or word 0 0 ≡ 108 → get_or word 1 0 ≡ 111 → get_or word 2 0 ≡ 97 → get_or word 3 0 ≡ 100 → n ≡ 2 → ⊥)
      → (length word ≡ 5 → get_or word 0 0 ≡ 115 → get_or word 1 0 ≡ 116 → get_or word 2 0 ≡ 111 → get_or word 3 0 ≡ 114 → get_or word 4 0 ≡ 101 → n ≡ 3 → ⊥)
      → (length word ≡ 3 → get_or word 0 0 ≡ 104 → get_or word 1 0 ≡ 105 → get_or word 2 0 ≡ 116 → n ≡ 6 → ⊥)
      → Told.Bad ≡ told (event_line word (take n ns))
  unfolding event_line told
  event_none a b c d e f =
      rw (
        size,
        no_test (same word call_word) (leb 4 n && leb n 9) (λ p q. let g : word ≡ call_word = same_eq word call_word p in a (rw g) (rw g) (rw g) (rw g) (rw g) (leb-true 4 n (and_left _ _ q)) (leb-true n 9 (and_right (leb 4 n) _ q))),
        no_test (same word word_head) (eqb n 4) (λ p q. let g : word ≡ word_head = same_eq word word_head p in b (rw g) (rw g) (rw g) (rw g) (rw g) (eqb-true n 4 q)),
        no_test (same word word_raise) (eqb n 2) (λ p q. let g : word ≡ word_raise = same_eq word word_raise p in c (rw g) (rw g) (rw g) (rw g) (rw g) (rw g) (eqb-true n 2 q)),
        no_test (same word word_load) (eqb n 2) (λ p q. let g : word ≡ word_load = same_eq word word_load p in d (rw g) (rw g) (rw g) (rw g) (rw g) (eqb-true n 2 q)),
        no_test (same word word_store) (eqb n 3) (λ p q. let g : word ≡ word_store = same_eq word word_store p in e (rw g) (rw g) (rw g) (rw g) (rw g) (rw g) (eqb-true n 3 q)),
        no_test (same word word_hit) (eqb n 6) (λ p q. let g : word ≡ word_hit = same_eq word word_hit p in f (rw g) (rw g) (rw g) (rw g) (eqb-true n 6 q)),
      )

pub ruleset named = (event_call, event_head, event_raise, event_load, event_store, event_hit, event_none)
