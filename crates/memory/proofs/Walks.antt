-- A range walked from piece to piece: what each turn of a loop adds.
use mathlib.Core.Path.{◌≡◌, sym, ◌∙◌}
use mathlib.Core.Bool.{true}
use mathlib.Core.List.{List, ◌++◌}
use Prim.Native.Nat.{ℕ, zero, suc, ◌+◌, ◌-◌, ◌^◌, ◌≤◌, ◌<◌}
use native.Mathlib.Omega.{arith}
use native.Mathlib.Nat.{add-zero, zero-add, suc-add}
use lib.ListN.{length, take, drop, length-take, length-drop, get_or, replicate, replicate-append-replicate}
use lib.Seq.{sets, take-add, ext_get_or, get_or-take, get_or-drop}
use borrow.Rule.Slice.PartMut.{put_mid}
use Rattle.std.proofs.lemmas.Slice.{take-put_mid}
use Rattle.rules.specs.declared.Extent.{Extent}
use Rattle.rules.specs.Real.{valid, byte_at, number_of, bytes_from, put_bytes, apply}
use Rattle.memory.specs.declared.extents.Piece.{Piece}
use Rattle.memory.specs.Cells.{cell, one}
use Rattle.memory.specs.Pieces.{piece_of}
use Rattle.memory.specs.Ready.{Apart, Ready}
use Rattle.memory.proofs.Places.{piece_most, piece_some, piece_room, piece_put, byte_run}
use Rattle.memory.proofs.Numbers.{bytes_same, number_same}
use Rattle.memory.proofs.Stores.{bytes_length}
use Rattle.memory.proofs.Reached.{valid_at}
use Rattle.memory.proofs.Writes.{put_append}

-- A walk over the n bytes from base on, of which i are passed: p is the next piece.
module _ (es : List Extent) (base i n : ℕ) (p : Piece) (q : p ≡ piece_of es (base + i) (n - i)) where
  -- it has a byte, no more than are left, and lies in the memory
  pub walk_some : valid es base n ≡ true → i < n → 0 < p.len
  walk_some v h = rw q (piece_some es (base + i) (n - i) (valid_at es base n i v h) (omega arith))

  pub walk_most : i < n → i + p.len ≤ n
  walk_most h =
      let k : p.len ≤ n - i = rw q (piece_most es (base + i) (n - i)) in
      omega arith

  pub walk_fits : (len : ℕ) → Ready es len → p.at.0 + p.len ≤ len
  walk_fits len r = rw q (piece_room es (base + i) (n - i) len r.long)

  -- the bytes us put there, behind the i that were put
  pub walk_put : (m m₁ m₂ vs us : List ℕ) → Apart es → m₁ ≡ put_bytes es m base vs → length vs ≡ i → length us ≡ p.len → m₂ ≡ sets m₁ p.at.0 us
      → m₂ ≡ put_bytes es m base (vs ++ us)
  walk_put m m₁ m₂ vs us s e l k w =
      let put : put_bytes es m₁ (base + i) us ≡ sets m₁ p.at.0 us = rw q (piece_put es m₁ us (base + i) (n - i) s (rw (k, q) (omega arith))) in
      w ∙ sym put ∙ rw (e, ← l) (sym (put_append es vs us m base))

-- the first i of a list, and the k behind them, as the code cuts them
module _ (l : List ℕ) (i k : ℕ) where
  abbrev cut : List ℕ
  cut = take (i + k - i) (drop i l)

  pub cut_length : i + k ≤ length l → length cut ≡ k
  cut_length h = omega (arith, length-take (i + k - i) (drop i l), length-drop i l)

  pub cut_parts : take i l ++ cut ≡ take (i + k) l
  cut_parts =
      let e : i + k - i ≡ k = omega arith in
      rw e (sym (take-add i k l))

-- what each turn of a walk asks
pub ruleset walks = (walk_some, walk_most, walk_fits, cut_length)

-- one write, once all of it is put
pub put_all : (es : List Extent) (m vs after : List ℕ) (base : ℕ) → after ≡ put_bytes es m base vs → after ≡ apply es m (one base vs)
unfolding apply
put_all es m vs after base e = e

-- zeros, and more of them
pub zeros_parts : (i k : ℕ) → ◌++◌ {A = ℕ} (replicate i 0) (replicate k 0) ≡ replicate (i + k) 0
zeros_parts i k = replicate-append-replicate i k 0

-- Bytes that are read piece by piece into an array: the piece that is copied is what is seen.
bytes_append : (f : ℕ → ℕ) (a i k : ℕ) → bytes_from f a (i + k) ≡ bytes_from f a i ++ bytes_from f (a + i) k
unfolding bytes_from
bytes_append f a zero k = rw (zero-add, add-zero)
bytes_append f a (suc i) k =
    let e : a + suc i ≡ suc a + i = omega arith in
    rw (suc-add, e, bytes_append f (suc a) i k)

bytes_at_lem : (f : ℕ → ℕ) (a n i : ℕ) → i < n → get_or (bytes_from f a n) i 0 ≡ f (a + i)
unfolding bytes_from
bytes_at_lem f a zero i h = absurd (omega arith)
bytes_at_lem f a (suc n) zero h = rw add-zero
bytes_at_lem f a (suc n) (suc i) h =
    let e : a + suc i ≡ suc a + i = omega arith in
    rw e (bytes_at_lem f (suc a) n i (omega arith))

bytes_cut : (m : List ℕ) (h k : ℕ) → h + k ≤ length m → bytes_from (cell m) h k ≡ cut m h k
bytes_cut m h k l =
    ext_get_or 0 (bytes_from (cell m) h k) (cut m h k) (bytes_length (cell m) h k ∙ sym (cut_length m h k l)) (λ i j. go i (rw bytes_length at j))
  where
    go : (i : ℕ) → i < k → get_or (bytes_from (cell m) h k) i 0 ≡ get_or (cut m h k) i 0
    go i j = bytes_at_lem (cell m) h k i j ∙ sym (get_or-take (h + k - h) (drop h m) i 0 (omega arith) ∙ get_or-drop h m i 0)

module _ (es : List Extent) (m : List ℕ) (base i n : ℕ) (p : Piece) (q : p ≡ piece_of es (base + i) (n - i)) (r : Ready es (length m)) where
  pub walk_read : (out ys : List ℕ) → take i out ≡ bytes_from (byte_at es m) base i → ys ≡ cut m p.at.0 p.len → i + p.len ≤ length out
      → take (i + p.len) (put_mid i (i + p.len - i) out ys) ≡ bytes_from (byte_at es m) base (i + p.len)
  walk_read out ys e w h =
      let fits : p.at.0 + p.len ≤ length m = rw q (piece_room es (base + i) (n - i) (length m) r.long) in
      let seen : bytes_from (byte_at es m) (base + i) p.len ≡ cut m p.at.0 p.len =
      bytes_same (byte_at es m) (cell m) (base + i) p.at.0 p.len (λ k l. rw q (byte_run es m (base + i) (n - i) k r.apart (rw q at l)))
      ∙ bytes_cut m p.at.0 p.len fits in
      let long : length ys ≡ p.len = rw w (cut_length m p.at.0 p.len fits) in
      take-put_mid i (i + p.len - i) out ys (i + p.len) (omega arith) (omega arith) ∙ rw (bytes_append, seen, e, w)

-- the number that bytes make which were read from a on
pub number_read : (f : ℕ → ℕ) (out : List ℕ) (a k v : ℕ) → out ≡ bytes_from f a k → (v ≡ number_of (cell out) 0 (length out)) × (v < 256 ^ length out)
    → (v ≡ number_of f a k) × (v < 256 ^ k)
number_read f out a k v e q =
    let n : length out ≡ k = rw e (bytes_length f a k) in
    let w : (v ≡ number_of (cell out) 0 k) × (v < 256 ^ k) = rw n at q in
    (w.0 ∙ rw e (number_same (cell (bytes_from f a k)) f 0 a k (λ j h. rw zero-add (bytes_at_lem f a k j h))), w.1)
