-- A guest's answers, and what each tells.
use Rattle.std.proofs.Common.{Ok, Err}
use borrow.Author.Tests.{le-leb, lt-leb}
use mathlib.Core.Bool.{Bool, true, false}
use mathlib.Core.Path.{◌≡◌, refl, sym, ap}
use mathlib.Core.List.{List}
use Prim.Native.Nat.{ℕ, ◌+◌, ◌*◌, ◌/◌, ◌<◌, ◌≤◌}
use native.Mathlib.Omega.{arith}
use lib.ListN.{length, replicate}
use Rattle.rules.specs.declared.Cpu.{Cpu}
use Rattle.rules.specs.declared.Extent.{Extent}
use Rattle.rules.specs.declared.Source.{Source}
use Rattle.rules.specs.declared.Versions.{Versions}
use Rattle.rules.specs.declared.Guest.{Guest}
use Rattle.rules.specs.declared.ImageRefusal.TheVariants.{ImageShort, HeaderOrCount}
use Rattle.rules.specs.Limits.{cpu_limit, extent_limit, source_limit}
use Rattle.rules.specs.Kept.{blank_extent, blank_source, blank_cpu, no_versions}
use Rattle.rules.specs.Bits.{reaches}
use Rattle.rules.specs.Rulings.{RulingBy, refused, granted, ◌or_refuse◌then◌, ◌grants◌}
use Rattle.rules.specs.Widths.{cpus_width, extents_width, sources_width, counts_bits, header_bits, extent_bits, source_bits}
use Rattle.rules.specs.Image.{Reading, ◌bits_at◌of◌from◌to◌else◌, read_extent, read_source, filled, read_lists, read_guest, behind}
use Rattle.image.specs.Answers.{result_of}
use Rattle.image.proofs.CountLaws.{granted_by, count_most}

-- the lists
module _ (s : List ℕ) (at cpus extents sources end : ℕ) (p : end ≡ at + extent_bits * extents + source_bits * sources) where
  pub lists_short : length s < (end + 7) / 8 → Err ImageShort ≡ result_of (read_lists s at cpus extents sources)
  unfolding read_lists
  lists_short h =
      let l : 8 * length s < at + extent_bits * extents + source_bits * sources = omega arith in
      rw (lt-leb (at + extent_bits * extents + source_bits * sources) (8 * length s) l)

  pub lists_read : (x : List Extent) (y : List Source) (v : Versions) (c : List Cpu)
      → x ≡ filled extent_limit blank_extent (λ i. read_extent s (at + extent_bits * i)) extents
      → y ≡ filled source_limit blank_source (λ i. read_source s (at + extent_bits * extents + source_bits * i)) sources
      → v ≡ no_versions → c ≡ replicate cpu_limit blank_cpu → (end + 7) / 8 ≤ length s
      → Ok (record {
        extents = record { extents = extents; extent = x };
        plant = record { versions = v; cpus = cpus; cpu = c; sources = sources; source = y };
      }) ≡ result_of (read_lists s at cpus extents sources)
  unfolding read_lists
  lists_read x y v c a b d e h =
      let l : at + extent_bits * extents + source_bits * sources ≤ 8 * length s = omega arith in
      rw (le-leb (at + extent_bits * extents + source_bits * sources) (8 * length s) l, a, b, d, e)

-- the three counts, and the lists behind them
abbrev pub cpus_read : List ℕ → ℕ → ℕ → Reading ℕ
cpus_read s g at = cpus_width bits_at at of s from 1 to cpu_limit else HeaderOrCount g

abbrev pub extents_read : List ℕ → ℕ → ℕ → Reading ℕ
extents_read s g at = extents_width bits_at (at + cpus_width) of s from 1 to extent_limit else HeaderOrCount g

abbrev pub sources_read : List ℕ → ℕ → ℕ → Reading ℕ
sources_read s g at = sources_width bits_at (at + (cpus_width + extents_width)) of s from 0 to source_limit else HeaderOrCount g

-- what is granted at the end was granted on the way
pub grants_tells : {R A B : Type 0} (m : RulingBy R A) (f : A → RulingBy R B) (b : B) → (m grants f) ≡ granted b → (a : A) × ((m ≡ granted a) × (f a ≡ granted b))
grants_tells (granted a) f b e = (a, (refl, e))
grants_tells (refused r) f b e = absurd (let z : ◌≡◌ {A = ℕ} 0 1 = cc in omega arith)

-- a guest that was read has no more extents and sources than it may have
listed : (t : Bool) (g h : Guest) → (t or_refuse ImageShort then granted h) ≡ granted g → h ≡ g
listed true g h e = cc
listed false g h e = cc

lists_counts : (s : List ℕ) (at x y z : ℕ) (g : Guest) → read_lists s at x y z ≡ granted g → (g.extents.extents ≡ y) × (g.plant.sources ≡ z)
unfolding read_lists
lists_counts s at x y z g e =
    let w = listed (reaches s (at + extent_bits * y + source_bits * z)) g _ e in
    (sym (ap (λ (h : Guest). h.extents.extents) w), sym (ap (λ (h : Guest). h.plant.sources) w))

guest_small : (s : List ℕ) (n at : ℕ) (g : Guest) → read_guest s n at ≡ granted g → (g.extents.extents ≤ extent_limit) × (g.plant.sources ≤ source_limit)
unfolding read_guest
guest_small s n at g e =
    let u = grants_tells (cpus_read s n at) _ g e in
    let v = grants_tells (extents_read s n at) _ g u.1.1 in
    let w = grants_tells (sources_read s n at) _ g v.1.1 in
    let l = lists_counts s (at + counts_bits) u.0 v.0 w.0 g w.1.1 in
    (omega (arith, count_most s (at + cpus_width) extents_width 1 extent_limit _ v.0 v.1.0), omega (arith, count_most s (at + (cpus_width + extents_width)) sources_width 0 source_limit _ w.0 w.1.0))

-- so its bits are at most these
abbrev pub guest_bits : ℕ
guest_bits = counts_bits + extent_bits * extent_limit + source_bits * source_limit

pub behind_most : (s : List ℕ) (n at : ℕ) (g : Guest) → Ok g ≡ result_of (read_guest s n at)
    → (b i : ℕ) → b ≡ behind at g → at ≤ header_bits + guest_bits * i → b ≤ header_bits + guest_bits * (i + 1)
behind_most s n at g e b i q h = omega (arith, guest_small s n at g (granted_by (read_guest s n at) g e))
