-- An event's word, by the length and the bytes that a match on a text tells.
use Rattle.std.proofs.Common.{◌≡◌, Some, None, List, ℕ, Bool, true, false, length, get_or, refl}
use Rattle.std.specs.Prelude.{if◌then◌else◌}
use Rattle.rules.specs.Text.{call_word, word_head, word_raise, word_load, word_store, word_hit, same}
use Rattle.reasons.specs.declared.fault.Word.TheVariants.{Call, Head, Raise, Load, Store, Hit}
use Rattle.reasons.specs.Faults.{word_of}
use Rattle.text.proofs.Same.{same_eq, text_three, text_four, text_five}

pub named_call : (t : List ℕ) → length t ≡ 4 → get_or t 0 0 ≡ 99 → get_or t 1 0 ≡ 97 → get_or t 2 0 ≡ 108 → get_or t 3 0 ≡ 108 → Some Call ≡ word_of t
unfolding word_of same
named_call t e h0 h1 h2 h3 = rw (text_four t e, h0, h1, h2, h3)

pub named_head : (t : List ℕ) → length t ≡ 4 → get_or t 0 0 ≡ 104 → get_or t 1 0 ≡ 101 → get_or t 2 0 ≡ 97 → get_or t 3 0 ≡ 100 → Some Head ≡ word_of t
unfolding word_of same
named_head t e h0 h1 h2 h3 = rw (text_four t e, h0, h1, h2, h3)

pub named_raise : (t : List ℕ) → length t ≡ 5 → get_or t 0 0 ≡ 114 → get_or t 1 0 ≡ 97 → get_or t 2 0 ≡ 105 → get_or t 3 0 ≡ 115 → get_or t 4 0 ≡ 101 → Some Raise ≡ word_of t
unfolding word_of same
named_raise t e h0 h1 h2 h3 h4 = rw (text_five t e, h0, h1, h2, h3, h4)

pub named_load : (t : List ℕ) → length t ≡ 4 → get_or t 0 0 ≡ 108 → get_or t 1 0 ≡ 111 → get_or t 2 0 ≡ 97 → get_or t 3 0 ≡ 100 → Some Load ≡ word_of t
unfolding word_of same
named_load t e h0 h1 h2 h3 = rw (text_four t e, h0, h1, h2, h3)

pub named_store : (t : List ℕ) → length t ≡ 5 → get_or t 0 0 ≡ 115 → get_or t 1 0 ≡ 116 → get_or t 2 0 ≡ 111 → get_or t 3 0 ≡ 114 → get_or t 4 0 ≡ 101 → Some Store ≡ word_of t
unfolding word_of same
named_store t e h0 h1 h2 h3 h4 = rw (text_five t e, h0, h1, h2, h3, h4)

pub named_hit : (t : List ℕ) → length t ≡ 3 → get_or t 0 0 ≡ 104 → get_or t 1 0 ≡ 105 → get_or t 2 0 ≡ 116 → Some Hit ≡ word_of t
unfolding word_of same
named_hit t e h0 h1 h2 = rw (text_three t e, h0, h1, h2)

pub named_none : (t : List ℕ)
    → (length t ≡ 4 → get_or t 0 0 ≡ 99 → get_or t 1 0 ≡ 97 → get_or t 2 0 ≡ 108 → get_or t 3 0 ≡ 108 → ⊥)
    → (length t ≡ 4 → get_or t 0 0 ≡ 104 → get_or t 1 0 ≡ 101 → get_or t 2 0 ≡ 97 → get_or t 3 0 ≡ 100 → ⊥)
    → (length t ≡ 5 → get_or t 0 0 ≡ 114 → get_or t 1 0 ≡ 97 → get_or t 2 0 ≡ 105 → get_or t 3 0 ≡ 115 → get_or t 4 0 ≡ 101 → ⊥)
    → (length t ≡ 4 → get_or t 0 0 ≡ 108 → get_or t 1 0 ≡ 111 → get_or t 2 0 ≡ 97 → get_or t 3 0 ≡ 100 → ⊥)
    → (length t ≡ 5 → get_or t 0 0 ≡ 115 → get_or t 1 0 ≡ 116 → get_or t 2 0 ≡ 111 → get_or t 3 0 ≡ 114 → get_or t 4 0 ≡ 101 → ⊥)
    → (length t ≡ 3 → get_or t 0 0 ≡ 104 → get_or t 1 0 ≡ 105 → get_or t 2 0 ≡ 116 → ⊥)
    → None ≡ word_of t
unfolding word_of
named_none t a b c d e f =
    go (same t call_word) refl (same t word_head) refl (same t word_raise) refl (same t word_load) refl (same t word_store) refl (same t word_hit) refl
  where
    go : (u₁ : Bool) → same t call_word ≡ u₁ → (u₂ : Bool) → same t word_head ≡ u₂ → (u₃ : Bool) → same t word_raise ≡ u₃ → (u₄ : Bool) → same t word_load ≡ u₄ → (u₅ : Bool) → same t word_store ≡ u₅ → (u₆ : Bool) → same t word_hit ≡ u₆
        → None ≡ (if u₁ then Some Call else if u₂ then Some Head else if u₃ then Some Raise else if u₄ then Some Load else if u₅ then Some Store else if u₆ then Some Hit else None)
    go true p0 u1 p1 u2 p2 u3 p3 u4 p4 u5 p5 = let q : t ≡ call_word = same_eq t call_word p0 in absurd (a (rw q) (rw q) (rw q) (rw q) (rw q))
    go false p0 true p1 u2 p2 u3 p3 u4 p4 u5 p5 = let q : t ≡ word_head = same_eq t word_head p1 in absurd (b (rw q) (rw q) (rw q) (rw q) (rw q))
    go false p0 false p1 true p2 u3 p3 u4 p4 u5 p5 = let q : t ≡ word_raise = same_eq t word_raise p2 in absurd (c (rw q) (rw q) (rw q) (rw q) (rw q) (rw q))
    go false p0 false p1 false p2 true p3 u4 p4 u5 p5 = let q : t ≡ word_load = same_eq t word_load p3 in absurd (d (rw q) (rw q) (rw q) (rw q) (rw q))
    go false p0 false p1 false p2 false p3 true p4 u5 p5 = let q : t ≡ word_store = same_eq t word_store p4 in absurd (e (rw q) (rw q) (rw q) (rw q) (rw q) (rw q))
    go false p0 false p1 false p2 false p3 false p4 true p5 = let q : t ≡ word_hit = same_eq t word_hit p5 in absurd (f (rw q) (rw q) (rw q) (rw q))
    go false p0 false p1 false p2 false p3 false p4 false p5 = refl

pub ruleset named = (named_call, named_head, named_raise, named_load, named_store, named_hit, named_none)
