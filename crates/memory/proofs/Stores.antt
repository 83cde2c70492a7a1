-- What a copy or a fill of a part leaves is a run of stores; and how many bytes are seen.
use mathlib.Core.Path.{◌≡◌, refl, sym, ap, ◌∙◌}
use mathlib.Core.List.{List}
use Prim.Native.Nat.{ℕ, zero, suc, ◌+◌, ◌-◌, ◌≤◌}
use native.Mathlib.Omega.{arith}
use lib.ListN.{length, take, drop, replicate, length-take, length-drop, length-replicate}
use lib.Seq.{sets, sets-eq}
use borrow.Rule.Slice.PartMut.{put_mid}
use Rattle.std.proofs.lemmas.List.{append_assoc, drop-drop}
use Rattle.rules.specs.Real.{bytes_from}

-- a part of n bytes from i on, which holds us now
pub copy_stores : (m us : List ℕ) (i n : ℕ) → length us ≡ n → i + n ≤ length m → put_mid i (i + n - i) m us ≡ sets m i us
copy_stores m us i n e h =
    let k : i + n - i ≡ n = omega arith in
    let d : drop n (drop i m) ≡ drop (i + length us) m = drop-drop n i m ∙ rw e in
    rw (k, d) (sym (sets-eq us m i (rw e h) ∙ append_assoc (take i m) us (drop (i + length us) m)))

-- a part that was filled
pub fill_stores : (m us : List ℕ) (i n v : ℕ) → us ≡ replicate (length (take (i + n - i) (drop i m))) v → i + n ≤ length m
    → put_mid i (i + n - i) m us ≡ sets m i (replicate n v)
fill_stores m us i n v e h =
    let k : length (take (i + n - i) (drop i m)) ≡ n = omega (arith, length-take (i + n - i) (drop i m), length-drop i m) in
    let all : us ≡ replicate n v = rw k at e in
    rw all (copy_stores m (replicate n v) i n (length-replicate n v) h)

-- bytes that are seen: how many
pub bytes_length : (f : ℕ → ℕ) (a n : ℕ) → length (bytes_from f a n) ≡ n
unfolding bytes_from
bytes_length f a zero = refl
bytes_length f a (suc n) = ap suc (bytes_length f (suc a) n)
