-- Where the bytes of a range lie. A part of it in one extent is one run of host offsets, within the memory; what is seen there is
-- what the memory holds there, and what is put there by real addresses is one run of stores.
use Rattle.std.proofs.Common.{Some}
use mathlib.Core.Path.{◌≡◌, refl, sym, ap}
use mathlib.Core.Bool.{Bool, true, false, cond, true≢false}
use mathlib.Core.List.{List, [], ◌∷◌}
use Prim.Native.Nat.{ℕ, suc, ◌+◌, ◌-◌, ◌≤◌, ◌<◌, min}
use native.Mathlib.Omega.{arith}
use native.Mathlib.Nat.{add-zero, add-suc, suc-add}
use lib.ListN.{length, set}
use lib.Seq.{sets}
use Rattle.rules.specs.declared.Extent.{Extent}
use Rattle.rules.specs.declared.Host.{Host}
use Rattle.rules.specs.Real.{low, high, holds, host_offset, located, byte_at, put_bytes}
use Rattle.memory.specs.Cells.{cell, somewhere}
use Rattle.memory.specs.Pieces.{part_of, piece_of}
use Rattle.memory.specs.Ready.{After, Apart, Long}
use Rattle.memory.proofs.Holds.{holds_low, holds_high, holds_made, holds_not}
pub use Rattle.memory.proofs.Reached.{valid_at, valid_part}

-- where an address lies, of a list that is not empty: in its first extent, or past that
pub data Lies (x : Extent) (xs : List Extent) (a : ℕ) (h : Host) : Type 0 where
  here : holds x a ≡ true → host_offset x (record { 0 = a }) ≡ h → Lies x xs a h
  later : holds x a ≡ false → located xs a ≡ Some h → Lies x xs a h

pub lies : (x : Extent) (xs : List Extent) (a : ℕ) (h : Host) → located (x ∷ xs) a ≡ Some h → Lies x xs a h
unfolding located
lies x xs a h e = go (holds x a) refl e
  where
    go : (t : Bool) → holds x a ≡ t → cond t (Some (host_offset x (record { 0 = a }))) (located xs a) ≡ Some h → Lies x xs a h
    go true p q = here p (cc)
    go false p q = later p q

pub nowhere : (a : ℕ) (h : Host) → located [] a ≡ Some h → ⊥
unfolding located
nowhere a h p = let z : ◌≡◌ {A = ℕ} 0 1 = cc in omega arith

-- an address lies within the memory
pub room : (es : List Extent) (a : ℕ) (h : Host) (m : ℕ) → Long es m → located es a ≡ Some h → h.0 < m
room [] a h m l e = absurd (nowhere a h e)
room (x ∷ xs) a h m l e = go (room xs a h m l.1) (lies x xs a h e)
  where
    go : (located xs a ≡ Some h → h.0 < m) → Lies x xs a h → h.0 < m
    go ih (here p q) =
        let g : (host_offset x (record { 0 = a })).0 ≡ h.0 = ap (λ (r : Host). r.0) q in
        omega (arith, holds_low x a p, holds_high x a p, l.0)
    go ih (later p q) = ih q

-- The first part of a range: its bytes lie one after another.

-- the extent of the list that the part is in
data Starts (x : Extent) (xs : List Extent) (a n : ℕ) : Type 0 where
  here : holds x a ≡ true → piece_of (x ∷ xs) a n ≡ part_of x a n → Starts x xs a n
  later : holds x a ≡ false → piece_of (x ∷ xs) a n ≡ piece_of xs a n → Starts x xs a n

starts : (x : Extent) (xs : List Extent) (a n : ℕ) → Starts x xs a n
unfolding piece_of
starts x xs a n = go (holds x a) refl
  where
    go : (t : Bool) → holds x a ≡ t → Starts x xs a n
    go true p = here p (rw p)
    go false p = later p (rw p)

pub piece_most : (es : List Extent) (a n : ℕ) → (piece_of es a n).len ≤ n
unfolding piece_of part_of
piece_most [] a n = omega arith
piece_most (x ∷ xs) a n = go (piece_most xs a n) (starts x xs a n)
  where
    go : (piece_of xs a n).len ≤ n → Starts x xs a n → (piece_of (x ∷ xs) a n).len ≤ n
    go ih (here p q) = rw q (omega arith)
    go ih (later p q) = rw q ih

-- a part that has a byte, where the address lies somewhere
pub piece_some : (es : List Extent) (a n : ℕ) → somewhere (located es a) ≡ true → 0 < n → 0 < (piece_of es a n).len
unfolding piece_of part_of located
piece_some [] a n e h = absurd (true≢false (sym e))
piece_some (x ∷ xs) a n e h = go (λ q. piece_some xs a n q h) (holds x a) refl e
  where
    go : (somewhere (located xs a) ≡ true → 0 < (piece_of xs a n).len) → (t : Bool) → holds x a ≡ t → somewhere (cond t (Some (host_offset x (record { 0 = a }))) (located xs a)) ≡ true → 0 < (cond t (part_of x a n) (piece_of xs a n)).len
    go ih true p q = let k : a < high x = holds_high x a p in omega arith
    go ih false p q = ih q

-- each byte of it lies at the same distance from the start; where the extents ascend
after_none : (x : Extent) (es : List Extent) (a n k : ℕ) → After x es → k < (piece_of es a n).len → high x ≤ a
unfolding piece_of part_of
after_none x [] a n k s l = absurd (omega arith)
after_none x (y ∷ ys) a n k s l = go (λ w. after_none x ys a n k s.1 w) (starts y ys a n)
  where
    go : (k < (piece_of ys a n).len → high x ≤ a) → Starts y ys a n → high x ≤ a
    go ih (here p q) = omega (arith, s.0, holds_low y a p)
    go ih (later p q) = ih (rw q at l)

pub piece_run : (es : List Extent) (a n k : ℕ) → Apart es → k < (piece_of es a n).len
    → located es (a + k) ≡ Some (record { 0 = (piece_of es a n).at.0 + k })
unfolding located piece_of part_of
piece_run [] a n k s l = absurd (omega arith)
piece_run (x ∷ xs) a n k s l = go (λ w. piece_run xs a n k s.1 w) (starts x xs a n)
  where
    go : (k < (piece_of xs a n).len → located xs (a + k) ≡ Some (record { 0 = (piece_of xs a n).at.0 + k })) → Starts x xs a n → cond (holds x (a + k)) (Some (host_offset x (record { 0 = a + k }))) (located xs (a + k)) ≡ Some (record { 0 = (piece_of (x ∷ xs) a n).at.0 + k })
    go ih (here p q) =
        let lo : low x ≤ a = holds_low x a p in
        let m : k < min n (high x - a) = rw q at l in
        let z : (host_offset x (record { 0 = a + k })).0 ≡ (piece_of (x ∷ xs) a n).at.0 + k = rw q (omega arith) in
        rw (holds_made x (a + k) (omega arith) (omega arith)) (λ i. Some (record { 0 = z i }))
    go ih (later p q) =
        let m : k < (piece_of xs a n).len = rw q at l in
        let ends : high x ≤ a = after_none x xs a n k s.0 m in
        rw (holds_not x (a + k) (omega arith), q) (ih m)

-- it ends within the memory
pub piece_room : (es : List Extent) (a n m : ℕ) → Long es m → (piece_of es a n).at.0 + (piece_of es a n).len ≤ m
unfolding piece_of part_of
piece_room [] a n m l = omega arith
piece_room (x ∷ xs) a n m l = go (piece_room xs a n m l.1) (starts x xs a n)
  where
    go : (piece_of xs a n).at.0 + (piece_of xs a n).len ≤ m → Starts x xs a n → (piece_of (x ∷ xs) a n).at.0 + (piece_of (x ∷ xs) a n).len ≤ m
    go ih (here p q) = rw q (omega (arith, holds_low x a p, holds_high x a p, l.0))
    go ih (later p q) = rw q ih

-- What is seen and put in a part.

pub byte_run : (es : List Extent) (m : List ℕ) (a n k : ℕ) → Apart es → k < (piece_of es a n).len → byte_at es m (a + k) ≡ cell m ((piece_of es a n).at.0 + k)
unfolding byte_at
byte_run es m a n k s l = rw (piece_run es a n k s l)

-- bytes whose addresses lie one after another are put by one run of stores
put_run : (vs : List ℕ) (es : List Extent) (m : List ℕ) (a h : ℕ) → ((k : ℕ) → k < length vs → located es (a + k) ≡ Some (record { 0 = h + k }))
    → put_bytes es m a vs ≡ sets m h vs
unfolding put_bytes
put_run [] es m a h f = refl
put_run (v ∷ vs) es m a h f =
    let f0 : located es (a + 0) ≡ Some (record { 0 = h + 0 }) = f 0 (omega arith) in
    let f1 : located es a ≡ Some (record { 0 = h }) = simp add-zero at f0 in
    rw f1 (put_run vs es (set m h v) (suc a) (suc h) (λ k l. simp (suc-add, ← add-suc) (f (suc k) (omega arith))))

pub piece_put : (es : List Extent) (m vs : List ℕ) (a n : ℕ) → Apart es → length vs ≤ (piece_of es a n).len → put_bytes es m a vs ≡ sets m (piece_of es a n).at.0 vs
piece_put es m vs a n s l = put_run vs es m a (piece_of es a n).at.0 (λ k h. piece_run es a n k s (omega arith))
