-- Laws of a word's line: a byte behind a text, numbers behind a word, and how long lines get.
use Rattle.std.specs.Prelude.{if◌then◌else◌}
use Prim.Native.Nat.{ℕ, suc, ◌+◌, ◌*◌, ◌<◌, ◌≤◌}
use mathlib.Core.Bool.{Bool, true, false}
use mathlib.Core.Path.{◌≡◌, refl}
use mir.Val.{bool_byte}
use mathlib.Core.List.{List, [], ◌∷◌, ◌++◌, append_assoc}
use native.Mathlib.Omega.{arith}
use lib.ListN.{length, take, set, length-append}
use lib.Seq.{sets}
use Rattle.rules.specs.declared.Extent.{Extent}
use Rattle.rules.specs.declared.Guest.{Guest}
use Rattle.rules.specs.declared.Source.{Source}
use Rattle.rules.specs.Limits.{extent_limit, source_limit}
use Rattle.rules.specs.Scan.{each_below}
use Rattle.rules.specs.Kept.{extent_at, source_at}
use Rattle.rules.specs.Text.{space}
use Rattle.rules.specs.Plan.{word_guest, word_extent, source_word, word_line, extent_line, source_line, guest_lines}
use Rattle.text.specs.Printed.{numbers_text}
use Rattle.text.proofs.PrintLaws.{numbers_most}
use Rattle.text.specs.Put.{Put}
use Rattle.text.proofs.PutLaws.{put_behind}
use Rattle.plans.proofs.EachLaws.{each_most}

-- what has been written, over m from a place on
module _ (m o : List ℕ) (at r : ℕ) where
  pub put_byte : (text : List ℕ) (b : ℕ) → Put m o at r text → Put m (set o r b) at (r + 1) (text ++ (b ∷ []))
  put_byte text b w = put_behind text (b ∷ []) m o (set o r b) at r (r + 1) w (record { behind = refl; bytes = refl })

  pub numbers_behind : (word ns : List ℕ) (count : ℕ) → Put m o at r (word ++ (space ∷ []))
      → (p : List ℕ) (s : ℕ) → (s ≡ r + length (numbers_text count ns)) × (p ≡ sets o r (numbers_text count ns)) → Put m p at s (word_line word (take count ns))
  unfolding word_line numbers_text
  numbers_behind word ns count w p s v =
      rw append_assoc at (put_behind (word ++ (space ∷ [])) (numbers_text count ns) m o p at r s w (record { behind = v.0; bytes = v.1 }))

-- whether cookies are supported, as a number
pub bit_of : (t : Bool) → bool_byte t ≡ (if t then 1 else 0)
bit_of true = refl
bit_of false = refl

-- a line is as long as its word, and a space and 16 digits for each number
pub line_most : (word ns : List ℕ) (j : ℕ) → j < length ns → length (word_line word (take (suc j) ns)) ≤ length word + 1 + 17 * suc j
unfolding word_line numbers_text
line_most word ns j h = rw length-append (omega (arith, numbers_most ns j h))

pub extent_most : (x : Extent) → length (extent_line x) ≤ 58
unfolding extent_line
extent_most x = line_most word_extent (x.real ∷ x.count ∷ x.host ∷ []) 2 (omega arith)

pub source_most : (s : Source) → length (source_line s) ≤ 58
unfolding source_line
source_most s = line_most source_word (s.devhandle ∷ s.devino ∷ (if s.cookies then 1 else 0) ∷ []) 2 (omega arith)

pub cpus_most : (cpus : ℕ) → length (word_line word_guest (cpus ∷ [])) ≤ 23
cpus_most cpus = line_most word_guest (cpus ∷ []) 0 (omega arith)

-- 23 bytes for the guest, and 58 for each extent and source
module _ (g : Guest) (e : g.extents.extents ≤ extent_limit) (s : g.plant.sources ≤ source_limit) where
  pub extents_most : length (each_below g.extents.extents (λ i. extent_line (extent_at g.extents i))) ≤ 406
  extents_most =
      omega (arith, each_most (λ i. extent_line (extent_at g.extents i)) 58 g.extents.extents (λ i h. extent_most (extent_at g.extents i)))

  pub guest_most : length (guest_lines g) ≤ 1357
  unfolding guest_lines
  guest_most =
      let sources = each_most (λ i. source_line (source_at g.plant i)) 58 g.plant.sources (λ i h. source_most (source_at g.plant i)) in
      rw (length-append, length-append) (omega (arith, cpus_most g.plant.cpus, extents_most, sources))
