-- Promise: demand 3 in its own words, of two accepted images. Guests as images give them are the same plant if the images say the same.
use mathlib.Core.Path.{◌≡◌, refl, sym, ◌∙◌}
use mathlib.Core.List.{List, [], ◌∷◌}
use Prim.Native.Nat.{ℕ}
use Rattle.rules.specs.declared.Extent.{Extent}
use Rattle.rules.specs.declared.Guest.{Guest}
use Rattle.rules.specs.Kept.{guest_at, extents_of}
use Rattle.rules.specs.Real.{reach, valid}
use Rattle.kept.proofs.Accepted.{Fresh, accepted_fresh, accepted_keeps}
use Rattle.promises.specs.Words.{Passes, SameReal}
use Rattle.promises.specs.Promises.{Demand-3}
use Rattle.promises.proofs.Passing.{steady_after}
use Rattle.promises.proofs.Alone.{two_hosts}

-- the same real extents reach as far, wherever they lie on the host
reach_same : (es fs : List Extent) → SameReal es fs → (a : ℕ) → reach es a ≡ reach fs a
unfolding reach
reach_same [] [] s a = refl
reach_same [] (y ∷ ys) s a = absurd s
reach_same (x ∷ xs) [] s a = absurd s
reach_same (x ∷ xs) (y ∷ ys) s a = rw (s.0, s.1) (reach_same xs ys s.2 _)

valid_same : (es fs : List Extent) → SameReal es fs → (a n : ℕ) → valid es a n ≡ valid fs a n
unfolding valid
valid_same es fs s a n = rw (reach_same es fs s a)

-- guests as images give them, with the same cpus and device list, are the same plant
plant_same : (x y : Guest) → Fresh x → Fresh y → x.plant.cpus ≡ y.plant.cpus → x.plant.sources ≡ y.plant.sources → x.plant.source ≡ y.plant.source → x.plant ≡ y.plant
plant_same x y f h c n s = λ i. record {
  versions = (f.versions ∙ sym h.versions) i;
  cpus = c i;
  cpu = (f.cpu ∙ sym h.cpu) i;
  sources = n i;
  source = s i;
}

pub demand_3 : Demand-3
demand_3 bytes bytes' tables tables' memory memory' accepted enough accepted' enough' g same events events' own =
    let ends =
    two_hosts tables tables' memory memory' g events events' p same.here p' same.there
    (plant_same (guest_at tables g) (guest_at tables' g) (accepted_fresh bytes tables accepted g same.here) (accepted_fresh bytes' tables' accepted' g same.there) same.cpus same.sources same.source)
    (valid_same (extents_of tables g) (extents_of tables' g) same.extents) same.byte own in
    record {
      answers = ends.0;
      guest = ends.1;
      extents = rw ((steady_after events tables memory p).extents g, (steady_after events' tables' memory' p').extents g) same.extents;
    }
  where
    p : Passes tables memory
    p = record { keep = accepted_keeps bytes tables accepted; long = enough }

    p' : Passes tables' memory'
    p' = record { keep = accepted_keeps bytes' tables' accepted'; long = enough' }
