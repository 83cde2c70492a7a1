-- Laws of an image line: the two digits of a byte, those of bytes, and the line around them.
use Prim.Native.Nat.{ℕ, zero, suc, ◌+◌, ◌*◌, ◌/◌, ◌%◌, ◌≤◌}
use mathlib.Core.Path.{◌≡◌, refl, ap, ◌∙◌}
use mathlib.Core.List.{List, [], ◌∷◌, ◌++◌}
use native.Mathlib.Numerals.{add-one}
use native.Mathlib.Omega.{arith}
use lib.ListN.{length, get_or, take, set}
use lib.Seq.{take-suc, take-length}
use Rattle.rules.specs.Scan.{each_below}
use Rattle.rules.specs.Text.{space, line_feed, word_image, digit_byte}
use Rattle.rules.specs.Plan.{digit_pairs, image_line}
use Rattle.text.specs.Put.{Put}
use Rattle.text.proofs.PutLaws.{put_behind}
use Rattle.plans.proofs.LineLaws.{put_byte}

pub pair_put : (m : List ℕ) (at high low d e : ℕ) → d ≡ digit_byte high → e ≡ digit_byte low → Put m (set (set m at d) (at + 1) e) at (at + 2) (digit_byte high ∷ digit_byte low ∷ [])
pair_put m at high low d e p q = record { behind = refl; bytes = rw (p, q, add-one at) }

-- the digits of the byte at each place
abbrev pub pair_at : List ℕ → ℕ → List ℕ
pair_at bytes i = digit_byte (get_or bytes i 0 / 16) ∷ digit_byte (get_or bytes i 0 % 16) ∷ []

pairs_append : (a b : List ℕ) → digit_pairs (a ++ b) ≡ digit_pairs a ++ digit_pairs b
unfolding digit_pairs
pairs_append [] b = refl
pairs_append (x ∷ a) b = rw (pairs_append a b)

each_pair : (bytes : List ℕ) (n : ℕ) → n ≤ length bytes → each_below n (pair_at bytes) ≡ digit_pairs (take n bytes)
unfolding each_below digit_pairs
each_pair bytes zero h = refl
each_pair bytes (suc n) h =
    rw (each_pair bytes n (omega arith), take-suc bytes n 0 (omega arith), pairs_append (take n bytes) (get_or bytes n 0 ∷ []))

pub all_pairs : (bytes : List ℕ) → each_below (length bytes) (pair_at bytes) ≡ digit_pairs bytes
all_pairs bytes = each_pair bytes (length bytes) (omega arith) ∙ ap digit_pairs (take-length bytes)

pub pairs_length : (bytes : List ℕ) → length (digit_pairs bytes) ≡ 2 * length bytes
unfolding digit_pairs
pairs_length [] = refl
pairs_length (b ∷ bs) = omega (arith, pairs_length bs)

-- the word, the pairs and the line's end
pub image_put : (bytes m n o : List ℕ) (r s : ℕ) → Put m n 0 r (word_image ++ (space ∷ [])) → Put n o r s (digit_pairs bytes) → Put m (set o s line_feed) 0 (s + 1) (image_line bytes)
unfolding image_line
image_put bytes m n o r s w v =
    put_behind (word_image ++ (space ∷ [])) (digit_pairs bytes ++ (line_feed ∷ [])) m n (set o s line_feed) 0 r (s + 1) w (put_byte n o r s (digit_pairs bytes) line_feed v)
