-- Laws of the test of one extent, and of the search through a guest's extents for the first piece of a range.
use mathlib.Core.Path.{◌≡◌, refl, sym}
use mathlib.Core.Bool.{Bool, true, false, ◌&&◌, cond}
use mathlib.Core.List.{List}
use Prim.Native.Nat.{ℕ, ◌+◌, ◌-◌, ◌^◌, ◌≤◌, ◌<◌, min}
use native.Mathlib.Omega.{arith}
use native.Mathlib.Numerals.{add-one}
use lib.Dec.{leb, ltb}
use lib.ListN.{length, get_or, drop, drop_of_length-le}
use lib.Seq.{drop-cons}
use borrow.Author.Tests.{le-leb, leb-true, ltb-true, lt-ltb, le-ltb}
use Rattle.rules.specs.declared.Extent.{Extent}
use Rattle.rules.specs.declared.Host.{Host}
use Rattle.rules.specs.Kept.{blank_extent}
use Rattle.rules.specs.Real.{low, high, holds, host_offset, reach}
use Rattle.rules.proofs.Tests.{and_left, and_right}
use Rattle.memory.specs.declared.extents.Piece.{Piece}
use Rattle.memory.specs.Pieces.{part_of, piece_of}

module _ (x : Extent) (a : ℕ) where
  -- what the test tells
  pub holds_low : holds x a ≡ true → low x ≤ a
  holds_low h = leb-true _ _ (and_left _ _ h)

  pub holds_high : holds x a ≡ true → a < high x
  holds_high h = ltb-true _ _ (and_right (leb (low x) a) _ h)

  -- and what it comes to: of an address of the extent, and of one past it
  pub holds_made : low x ≤ a → a < high x → holds x a ≡ true
  holds_made h k = rw (le-leb (low x) a h) (lt-ltb a (high x) k)

  pub holds_not : high x ≤ a → holds x a ≡ false
  holds_not h = go (leb (low x) a)
    where
      go : (t : Bool) → (t && ltb a (high x)) ≡ false
      go true = le-ltb a (high x) h
      go false = refl

-- the part of a range in an extent that ends at e, and the address behind it
pub part_is : (x : Extent) (a n : ℕ) (h : Host) (k e : ℕ) → a < high x → e ≡ high x → e < 2 ^ 64 → k ≡ min n (e - a) → h ≡ host_offset x (record { 0 = a })
    → (record { at = h; len = k } ≡ part_of x a n) × (a + k < 2 ^ 64)
unfolding part_of
part_is x a n h k e l d b p q = (rw (p, q, d), omega (arith, d))

-- A search through the extents es, at place i: t is what the test of the extent there came to. The invariant is that the whole is as
-- it is from i on.
abbrev pub From : List Extent → ℕ → ℕ → ℕ → Type 0
From es b len i = piece_of es b len ≡ piece_of (drop i es) b len

module _ (es : List Extent) (b len i : ℕ) where
  pub piece_found : (p : Piece) (t : Bool) → From es b len i → i < length es → t ≡ holds (get_or es i blank_extent) b → t ≡ true
      → (p ≡ part_of (get_or es i blank_extent) b len) × (b + p.len < 2 ^ 64) → (p ≡ piece_of es b len) × (b + p.len < 2 ^ 64)
  unfolding piece_of
  piece_found p t a h e u q = (rw (a, drop-cons es i blank_extent h, ← e, u) q.0, q.1)

  pub piece_on : (t : Bool) → From es b len i → i < length es → t ≡ holds (get_or es i blank_extent) b → t ≡ false → From es b len (i + 1)
  unfolding piece_of
  piece_on t a h e u = rw (a, drop-cons es i blank_extent h, ← e, u, add-one)

  pub piece_none : b < 2 ^ 64 → From es b len i → length es ≤ i → (record { at = record { 0 = 0 }; len = 0 } ≡ piece_of es b len) × (b + 0 < 2 ^ 64)
  unfolding piece_of
  piece_none l a h = (rw (a, drop_of_length-le es h), omega arith)

-- The same search for what is reached: `at` is what was reached before place i.
abbrev pub Onward : List Extent → ℕ → ℕ → ℕ → Type 0
Onward es base i at = reach es base ≡ reach (drop i es) at

module _ (es : List Extent) (base i at : ℕ) where
  pub onward_on : (r : ℕ) → Onward es base i at → i < length es → r ≡ cond (holds (get_or es i blank_extent) at) (high (get_or es i blank_extent)) at
      → Onward es base (i + 1) r
  unfolding reach
  onward_on r a h e = rw (a, drop-cons es i blank_extent h, e, add-one)

  pub onward_end : Onward es base i at → length es ≤ i → at ≡ reach es base
  unfolding reach
  onward_end a h = sym (rw (a, drop_of_length-le es h))
