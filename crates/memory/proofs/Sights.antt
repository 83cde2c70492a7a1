-- What a plant sees after its own writes: what it saw, with the bytes of the writes over it. No host page has a part in that.
use Rattle.std.proofs.Common.{Option, Some, None}
use mathlib.Core.Path.{◌≡◌, refl, sym, ap, ◌∙◌, fun_ext}
use mathlib.Core.Bool.{Bool, true, false, ◌&&◌, cond, and-false, and-true}
use mathlib.Core.List.{List, [], ◌∷◌}
use Prim.Native.Nat.{ℕ, zero, suc, ◌+◌, ◌*◌, ◌/◌, ◌%◌, ◌^◌, ◌≤◌, ◌<◌}
use native.Mathlib.Omega.{arith}
use native.Mathlib.Nat.{add-zero, zero-add, add-suc, suc-add, not-suc-le-zero}
use lib.Dec.{eqb}
use lib.ListN.{length, get_or, set}
use lib.Seq.{get_or-set_same, get_or-set_other}
use borrow.Author.Tests.{eqb-true, eqb-false, eq-eqb, ne_eqb}
use Rattle.rules.specs.declared.Extent.{Extent}
use Rattle.rules.specs.declared.Host.{Host}
use Rattle.rules.specs.Real.{host_offset, valid, located, byte_there, byte_at, Sight, sight_of, put_there, put_bytes, Write, apply, number_of, word_bytes}
use Rattle.memory.specs.Cells.{cell}
use Rattle.memory.specs.Ready.{Long}
use Rattle.memory.proofs.Holds.{holds_low}
use Rattle.memory.proofs.Numbers.{number_same}
use Rattle.memory.proofs.Places.{Lies, here, later, lies, nowhere, room}
use Rattle.memory.proofs.Reached.{at_valid, nowhere_valid}
use Rattle.memory.proofs.Writes.{there_length, put_length}
use Rattle.memory.proofs.Isolation.{Distinct, located_owns, held_within, unshared_owns}

-- a byte over what is seen, if its address is the plant's own
abbrev pub upd : Sight → ℕ → ℕ → Sight
upd s a v = record { valid = s.valid; byte = λ b. cond (eqb b a && s.valid a 1) v (s.byte b) }

-- bytes from a on, and a list of writes
unfoldable pub over : Sight → ℕ → List ℕ → Sight
over s a [] = s
over s a (v ∷ vs) = over (upd s a v) (suc a) vs

unfoldable pub after : Sight → List Write → Sight
after s [] = s
after s (w ∷ ws) = after (over s w.at w.bytes) ws

-- two addresses that lie at one offset are one
one_place : (es : List Extent) (a b : ℕ) (h : Host) → Distinct es → located es a ≡ Some h → located es b ≡ Some h → a ≡ b
one_place [] a b h d p q = absurd (nowhere a h p)
one_place (x ∷ xs) a b h d p q = go (λ u w. one_place xs a b h d.1 u w) (lies x xs a h p) (lies x xs b h q)
  where
    go : (located xs a ≡ Some h → located xs b ≡ Some h → a ≡ b) → Lies x xs a h → Lies x xs b h → a ≡ b
    go ih (here u w) (here r s) =
        let e : (host_offset x (record { 0 = a })).0 ≡ (host_offset x (record { 0 = b })).0 = ap (λ (g : Host). g.0) (w ∙ sym s) in
        omega (arith, holds_low x a u, holds_low x b r)
    go ih (here u w) (later r s) = absurd (unshared_owns x xs h.0 d.0 (held_within x a h u w) (located_owns xs b h s))
    go ih (later u w) (here r s) = absurd (unshared_owns x xs h.0 d.0 (held_within x b h r s) (located_owns xs a h w))
    go ih (later u w) (later r s) = ih w s

module _ (es : List Extent) (d : Distinct es) where
  -- the byte at b after a byte was put at an address a that lies at h; t is whether b is a, and q where b lies
  own_put : (m : List ℕ) (a v b : ℕ) (h : Host) → located es a ≡ Some h → h.0 < length m → (t : Bool) → eqb b a ≡ t → (q : Option Host) → located es b ≡ q
      → byte_there (set m h.0 v) q ≡ cond t v (byte_there m q)
  own_put m a v b h p l true e None q =
      let i : b ≡ a = eqb-true b a e in
      let z : ◌≡◌ {A = ℕ} 0 1 = cc in
      absurd (omega arith)
  own_put m a v b h p l true e (Some g) q =
      let i : b ≡ a = eqb-true b a e in
      let z : h ≡ g = cc in
      rw (← z) (get_or-set_same m h.0 v 0 l)
  own_put m a v b h p l false e None q = refl
  own_put m a v b h p l false e (Some g) q =
      get_or-set_other m h.0 g.0 v 0 (λ z. eqb-false b a e (one_place es b a h d (q ∙ (λ i. Some (record { 0 = z i }))) p))

  own_byte : (m : List ℕ) → Long es (length m) → (a v b : ℕ) → byte_at es (put_there m (located es a) v) b ≡ cond (eqb b a && valid es a 1) v (byte_at es m b)
  unfolding byte_at
  own_byte m l a v b = go (located es a) refl
    where
      go : (p : Option Host) → located es a ≡ p → byte_there (put_there m p v) (located es b) ≡ cond (eqb b a && valid es a 1) v (byte_there m (located es b))
      go None e = rw (← nowhere_valid es a e, and-false)
      go (Some h) e =
          rw (← at_valid es a h e, and-true)
          (own_put m a v b h e (omega (arith, room es a h (length m) l e)) (eqb b a) refl (located es b) refl)

  own_upd : (m : List ℕ) → Long es (length m) → (a v : ℕ) → sight_of es (put_there m (located es a) v) ≡ upd (sight_of es m) a v
  own_upd m l a v = ap (λ (see : ℕ → ℕ). record { valid = valid es; byte = see }) (fun_ext (λ b. own_byte m l a v b))

  own_over : (vs m : List ℕ) → Long es (length m) → (a : ℕ) → sight_of es (put_bytes es m a vs) ≡ over (sight_of es m) a vs
  unfolding put_bytes over
  own_over [] m l a = refl
  own_over (v ∷ vs) m l a =
      own_over vs (put_there m (located es a) v) (rw there_length l) (suc a) ∙ ap (λ (s : Sight). over s (suc a) vs) (own_upd m l a v)

  -- the sight after the plant's own writes
  pub own_sight : (ws : List Write) (m : List ℕ) → Long es (length m) → sight_of es (apply es m ws) ≡ after (sight_of es m) ws
  unfolding apply after
  own_sight [] m l = refl
  own_sight (w ∷ ws) m l =
      own_sight ws (put_bytes es m w.at w.bytes) (rw put_length l) ∙ ap (λ (s : Sight). after s ws) (own_over w.bytes m l w.at)

-- What is seen of bytes that were put over: before and past them what was seen, among them themselves.

pub over_before : (vs : List ℕ) (s : Sight) (a b : ℕ) → b < a → (over s a vs).byte b ≡ s.byte b
unfolding over
over_before [] s a b l = refl
over_before (v ∷ vs) s a b l = over_before vs (upd s a v) (suc a) b (omega arith) ∙ rw (ne_eqb b a (omega arith))

pub over_past : (vs : List ℕ) (s : Sight) (a b : ℕ) → a + length vs ≤ b → (over s a vs).byte b ≡ s.byte b
unfolding over
over_past [] s a b l = refl
over_past (v ∷ vs) s a b l = over_past vs (upd s a v) (suc a) b (omega arith) ∙ rw (ne_eqb b a (omega arith))

pub over_at : (vs : List ℕ) (s : Sight) (a k : ℕ) → k < length vs → ((j : ℕ) → j < length vs → s.valid (a + j) 1 ≡ true) → (over s a vs).byte (a + k) ≡ get_or vs k 0
unfolding over
over_at [] s a k l f = absurd (not-suc-le-zero l)
over_at (v ∷ vs) s a zero l f =
    let f0 : s.valid (a + 0) 1 ≡ true = f 0 (omega arith) in
    let f1 : s.valid a 1 ≡ true = simp add-zero at f0 in
    rw add-zero (over_before vs (upd s a v) (suc a) a (omega arith) ∙ rw (eq-eqb a a refl, f1))
over_at (v ∷ vs) s a (suc k) l f =
    let e : a + suc k ≡ suc a + k = omega arith in
    rw e (over_at vs (upd s a v) (suc a) k (omega arith) (λ j h. simp (suc-add, ← add-suc) (f (suc j) (omega arith))))

word_whole : (v : ℕ) → v < 2 ^ 64 → number_of (cell (word_bytes v)) 0 8 ≡ v
unfolding word_bytes number_of
word_whole v l =
    let s0 : 0 * 256 + v / 2 ^ 56 % 256 ≡ v / 2 ^ 56 = omega arith in
    let s1 : v / 2 ^ 56 * 256 + v / 2 ^ 48 % 256 ≡ v / 2 ^ 48 = omega arith in
    let s2 : v / 2 ^ 48 * 256 + v / 2 ^ 40 % 256 ≡ v / 2 ^ 40 = omega arith in
    let s3 : v / 2 ^ 40 * 256 + v / 2 ^ 32 % 256 ≡ v / 2 ^ 32 = omega arith in
    let s4 : v / 2 ^ 32 * 256 + v / 2 ^ 24 % 256 ≡ v / 2 ^ 24 = omega arith in
    let s5 : v / 2 ^ 24 * 256 + v / 2 ^ 16 % 256 ≡ v / 2 ^ 16 = omega arith in
    let s6 : v / 2 ^ 16 * 256 + v / 2 ^ 8 % 256 ≡ v / 2 ^ 8 = omega arith in
    let s7 : v / 2 ^ 8 * 256 + v % 256 ≡ v = omega arith in
    rw (s0, s1, s2, s3, s4, s5, s6, s7)

-- a word that was stored is the word that is seen
pub stored_word : (v : ℕ) (s : Sight) (a : ℕ) → v < 2 ^ 64 → ((j : ℕ) → j < 8 → s.valid (a + j) 1 ≡ true) → number_of (over s a (word_bytes v)).byte a 8 ≡ v
unfolding word_bytes
stored_word v s a l f =
    number_same (over s a (word_bytes v)).byte (cell (word_bytes v)) a 0 8 (λ j k. rw zero-add (over_at (word_bytes v) s a j k f)) ∙ word_whole v l
