-- Isolation: what a guest writes changes no byte outside the host pages of its own extents, so nothing that another guest sees.
use Rattle.std.proofs.Common.{Option, Some, None}
use mathlib.Core.Path.{◌≡◌, refl, sym, ap, ◌∙◌, fun_ext}
use mathlib.Core.Bool.{Bool, true, false, ◌||◌, true≢false, false≢true}
use mathlib.Core.List.{List, [], ◌∷◌}
use Prim.Native.Nat.{ℕ, suc, ◌+◌, ◌*◌, ◌≤◌, ◌<◌, min, max}
use native.Mathlib.Omega.{arith}
use lib.Dec.{leb}
use lib.Seq.{get_or-set_other}
use borrow.Author.Tests.{le-leb, leb-true, ltb-false}
use Rattle.rules.specs.declared.Extent.{Extent}
use Rattle.rules.specs.declared.Host.{Host}
use Rattle.rules.specs.Limits.{page_size}
use Rattle.rules.specs.Image.{share}
use Rattle.rules.specs.Real.{low, high, holds, host_offset, valid, located, byte_there, byte_at, sight_of, put_there, put_bytes, Write, apply}
use Rattle.rules.proofs.Tests.{and_left, and_right}
use Rattle.memory.specs.Cells.{cell, within, owns}
use Rattle.memory.proofs.Holds.{holds_low, holds_high}
use Rattle.memory.proofs.Places.{Lies, here, later, lies, nowhere}

-- no host offset is both's
abbrev pub Strangers : List Extent → List Extent → Type 0
Strangers es fs = (k : ℕ) → owns fs k ≡ true → owns es k ≡ false

or-true : (s t : Bool) → t ≡ true → (s || t) ≡ true
or-true true t p = refl
or-true false t p = p

within_made : (x : Extent) (k : ℕ) → x.host * page_size ≤ k → k + 1 ≤ (x.host + x.count) * page_size → within x k ≡ true
within_made x k p q = rw (le-leb (x.host * page_size) k p) (le-leb (k + 1) ((x.host + x.count) * page_size) q)

within_low : (x : Extent) (k : ℕ) → within x k ≡ true → x.host * page_size ≤ k
within_low x k h = leb-true _ _ (and_left _ _ h)

within_high : (x : Extent) (k : ℕ) → within x k ≡ true → k + 1 ≤ (x.host + x.count) * page_size
within_high x k h = leb-true _ _ (and_right (leb (x.host * page_size) k) _ h)

-- where an address of the extent lies is in its host pages
pub held_within : (x : Extent) (b : ℕ) (h : Host) → holds x b ≡ true → host_offset x (record { 0 = b }) ≡ h → within x h.0 ≡ true
held_within x b h p q =
    let lo : low x ≤ b = holds_low x b p in
    let hi : b < high x = holds_high x b p in
    let g : (host_offset x (record { 0 = b })).0 ≡ h.0 = ap (λ (r : Host). r.0) q in
    within_made x h.0 (omega arith) (omega arith)

pub located_owns : (es : List Extent) (b : ℕ) (h : Host) → located es b ≡ Some h → owns es h.0 ≡ true
unfolding owns
located_owns [] b h e = absurd (nowhere b h e)
located_owns (x ∷ xs) b h e = go (located_owns xs b h) (lies x xs b h e)
  where
    go : (located xs b ≡ Some h → owns xs h.0 ≡ true) → Lies x xs b h → (within x h.0 || owns xs h.0) ≡ true
    go ih (here p q) = rw (held_within x b h p q)
    go ih (later p q) = or-true (within x h.0) _ (ih q)

-- an offset that is none of the guest's keeps its byte
module _ (es : List Extent) (k : ℕ) (no : owns es k ≡ false) where
  there_other : (m : List ℕ) (a v : ℕ) → cell (put_there m (located es a) v) k ≡ cell m k
  there_other m a v = go (located es a) refl
    where
      go : (p : Option Host) → located es a ≡ p → cell (put_there m p v) k ≡ cell m k
      go None e = refl
      go (Some h) e = get_or-set_other m h.0 k v 0 (λ q. true≢false (sym (located_owns es a h e) ∙ ap (owns es) (sym q) ∙ no))

  put_other : (vs m : List ℕ) (a : ℕ) → cell (put_bytes es m a vs) k ≡ cell m k
  unfolding put_bytes
  put_other [] m a = refl
  put_other (v ∷ vs) m a = put_other vs (put_there m (located es a) v) (suc a) ∙ there_other m a v

  pub apply_other : (ws : List Write) (m : List ℕ) → cell (apply es m ws) k ≡ cell m k
  unfolding apply
  apply_other [] m = refl
  apply_other (w ∷ ws) m = apply_other ws (put_bytes es m w.at w.bytes) ∙ put_other w.bytes m w.at

-- what another guest sees stays as it was: each byte, and the whole sight
module _ (es fs : List Extent) (s : Strangers es fs) (ws : List Write) (m : List ℕ) where
  pub unseen : (b : ℕ) → byte_at fs (apply es m ws) b ≡ byte_at fs m b
  unfolding byte_at
  unseen b = go (located fs b) refl
    where
      go : (p : Option Host) → located fs b ≡ p → byte_there (apply es m ws) p ≡ byte_there m p
      go None e = refl
      go (Some h) e = apply_other es h.0 (s h.0 (located_owns fs b h e)) ws m

  pub sight_unmoved : sight_of fs (apply es m ws) ≡ sight_of fs m
  sight_unmoved = ap (λ (see : ℕ → ℕ). record { valid = valid fs; byte = see }) (fun_ext (λ b. unseen b))

-- Extents that share no host page.

-- x shares none with any of the list
abbrev pub Unshared : Extent → List Extent → Type 0
Unshared x [] = Unit {0}
Unshared x (y ∷ ys) = (share x y ≡ false) × Unshared x ys

-- none of one list with any of the other
abbrev pub Cross : List Extent → List Extent → Type 0
Cross [] fs = Unit {0}
Cross (x ∷ xs) fs = Unshared x fs × Cross xs fs

-- no two of one list
abbrev pub Distinct : List Extent → Type 0
Distinct [] = Unit {0}
Distinct (x ∷ xs) = Unshared x xs × Distinct xs

or_cases : {C : Type 0} (s t : Bool) → (s || t) ≡ true → (s ≡ true → C) → (t ≡ true → C) → C
or_cases true t p f g = f refl
or_cases false t p f g = g p

shared_never : (x y : Extent) (k : ℕ) → share x y ≡ false → within x k ≡ true → within y k ≡ true → ⊥
unfolding share
shared_never x y k p q r =
    let e : min (x.host + x.count) (y.host + y.count) ≤ max x.host y.host = ltb-false _ _ p in
    omega (arith, within_low x k q, within_high x k q, within_low y k r, within_high y k r)

pub unshared_owns : (x : Extent) (fs : List Extent) (k : ℕ) → Unshared x fs → within x k ≡ true → owns fs k ≡ true → ⊥
unfolding owns
unshared_owns x [] k u p q = false≢true q
unshared_owns x (y ∷ ys) k u p q = or_cases (within y k) (owns ys k) q (λ e. shared_never x y k u.0 p e) (λ e. unshared_owns x ys k u.1 p e)

pub strangers : (es fs : List Extent) → Cross es fs → Strangers es fs
unfolding owns
strangers [] fs c k q = refl
strangers (x ∷ xs) fs c k q = go (within x k) refl (strangers xs fs c.1 k q)
  where
    go : (t : Bool) → within x k ≡ t → owns xs k ≡ false → (t || owns xs k) ≡ false
    go true e ih = absurd (unshared_owns x fs k c.0 e q)
    go false e ih = ih
