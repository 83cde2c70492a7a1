-- What the tests of the tables (101) and of the memory (102) tell of the extents of a guest, and of those of two guests.
use mathlib.Core.Path.{◌≡◌, refl, ◌∙◌}
use mathlib.Core.Bool.{Bool, true, false, ◌||◌}
use mathlib.Core.List.{List, [], ◌∷◌}
use Prim.Native.Nat.{ℕ, suc, ◌+◌, ◌-◌, ◌*◌, ◌/◌, ◌%◌, ◌≤◌, ◌<◌}
use native.Mathlib.Nat.{min_comm, max_comm}
use native.Mathlib.Omega.{arith}
use lib.Dec.{leb, eqb}
use lib.ListN.{length, get_or, length-take}
use lib.Seq.{get_or-take}
use borrow.Author.Tests.{leb-true, leb-false, ne_eqb}
use Rattle.rules.specs.declared.Extent.{Extent}
use Rattle.rules.specs.declared.Extents.{Extents}
use Rattle.rules.specs.declared.Tables.{Tables}
use Rattle.rules.specs.Limits.{page_size, guest_limit, extent_limit}
use Rattle.rules.specs.Kept.{blank_extent, guest_at, extent_at, extents_of}
use Rattle.rules.specs.Real.{low, high}
use Rattle.rules.specs.Image.{follows, ascend, share, run_at, shares_before, pages_shared}
use Rattle.rules.specs.Host.{long_enough}
use Rattle.rules.proofs.Scan.{all_at, none_at, unfound_at}
use Rattle.memory.specs.Ready.{present, After, Apart, Long, Ready}
use Rattle.memory.proofs.Isolation.{Unshared, Cross, Distinct, Strangers, strangers}

abbrev at : List Extent → ℕ → Extent
at es i = get_or es i blank_extent

-- From a fact of each place to the fact of the list.

-- what starts past the end of y starts past the end of x, if x ends first
after_more : (x y : Extent) (zs : List Extent) → high x ≤ high y → After y zs → After x zs
after_more x y [] h a = tt
after_more x y (z ∷ zs) h a = (omega (arith, a.0), after_more x y zs h a.1)

apart_of : (es : List Extent) → ((i : ℕ) → suc i < length es → high (at es i) ≤ low (at es (suc i))) → Apart es
apart_of [] f = tt
apart_of (x ∷ []) f = (tt, tt)
apart_of (x ∷ y ∷ ys) f =
    let ih : Apart (y ∷ ys) = apart_of (y ∷ ys) (λ i l. f (suc i) (omega arith)) in
    let h : high x ≤ low y = f 0 (omega arith) in
    ((h, after_more x y ys (omega arith) ih.0), ih)

long_of : (es : List Extent) (n : ℕ) → ((i : ℕ) → i < length es → ((at es i).host + (at es i).count) * page_size ≤ n) → Long es n
long_of [] n f = tt
long_of (x ∷ xs) n f = (f 0 (omega arith), long_of xs n (λ i l. f (suc i) (omega arith)))

unshared_of : (x : Extent) (fs : List Extent) → ((j : ℕ) → j < length fs → share x (at fs j) ≡ false) → Unshared x fs
unshared_of x [] f = tt
unshared_of x (y ∷ ys) f = (f 0 (omega arith), unshared_of x ys (λ j l. f (suc j) (omega arith)))

cross_of : (es fs : List Extent) → ((i j : ℕ) → i < length es → j < length fs → share (at es i) (at fs j) ≡ false) → Cross es fs
cross_of [] fs f = tt
cross_of (x ∷ xs) fs f = (unshared_of x fs (λ j l. f 0 j (omega arith) l), cross_of xs fs (λ i j k l. f (suc i) j (omega arith) l))

distinct_of : (es : List Extent) → ((i j : ℕ) → i < j → j < length es → share (at es i) (at es j) ≡ false) → Distinct es
distinct_of [] f = tt
distinct_of (x ∷ xs) f =
    (unshared_of x xs (λ j l. f 0 (suc j) (omega arith) (omega arith)), distinct_of xs (λ i j h l. f (suc i) (suc j) (omega arith) (omega arith)))

-- The extents that are there.

module _ (e : Extents) (i : ℕ) (h : i < length (present e)) where
  there : i < e.extents
  there = omega (arith, length-take e.extents e.extent)

  at_there : at (present e) i ≡ extent_at e i
  at_there = get_or-take e.extents e.extent i blank_extent there

ascend_at : (e : Extents) (i : ℕ) → ascend e ≡ true → suc i < e.extents → (extent_at e i).real + (extent_at e i).count ≤ (extent_at e (suc i)).real
unfolding follows ascend
ascend_at e i p h =
    let q : (eqb (suc i) 0 || leb ((extent_at e (suc i - 1)).real + (extent_at e (suc i - 1)).count) (extent_at e (suc i)).real) ≡ true = all_at _ e.extents (suc i) p h in
    let s : suc i - 1 ≡ i = omega arith in
    leb-true _ _ (rw (ne_eqb (suc i) 0 (omega arith), s) at q)

pub apart_present : (e : Extents) → ascend e ≡ true → Apart (present e)
apart_present e p =
    apart_of (present e) (λ i l.
    rw (at_there e i (omega arith), at_there e (suc i) l) (omega (arith, ascend_at e i p (there e (suc i) l))))

-- The host's runs of pages: extent i of guest g is run extent_limit·g + i.

module _ (tables : Tables) where
  abbrev held : ℕ → ℕ → Extent
  held g i = extent_at (guest_at tables g).extents i

  pub run_at_lem : (g i : ℕ) → i < extent_limit → run_at tables (extent_limit * g + i) ≡ held g i
  unfolding run_at
  run_at_lem g i h =
      let d : (extent_limit * g + i) / extent_limit ≡ g = omega arith in
      let r : (extent_limit * g + i) % extent_limit ≡ i = omega arith in
      rw (d, r)

  long_at : (n g i : ℕ) → long_enough tables n ≡ true → g < guest_limit → i < extent_limit → ((held g i).host + (held g i).count) * page_size ≤ n
  unfolding long_enough
  long_at n g i p hg hi = rw (← run_at_lem g i hi) (leb-true _ _ (all_at _ (guest_limit * extent_limit) (extent_limit * g + i) p (omega arith)))

  -- two runs, the first before the second, share no page
  apart_at : (g i f j : ℕ) → pages_shared tables ≡ false → f < guest_limit → i < extent_limit → j < extent_limit → extent_limit * g + i < extent_limit * f + j → share (held g i) (held f j) ≡ false
  unfolding shares_before
  apart_at g i f j p hf hi hj l =
      rw (← run_at_lem g i hi, ← run_at_lem f j hj) (none_at _ (extent_limit * f + j) (extent_limit * g + i) (unfound_at _ (guest_limit * extent_limit) (extent_limit * f + j) p (omega arith)) l)

  share_swap : (x y : Extent) → share x y ≡ share y x
  unfolding share
  share_swap x y = rw (max_comm x.host y.host, min_comm (x.host + x.count) (y.host + y.count))

  -- What a guest's extents are, and those of two guests to each other.
  module _ (g : ℕ) (hg : g < guest_limit) (few : (guest_at tables g).extents.extents ≤ extent_limit) where
    pub guest_ready : (n : ℕ) → ascend (guest_at tables g).extents ≡ true → long_enough tables n ≡ true → Ready (extents_of tables g) n
    guest_ready n p q =
        let e = (guest_at tables g).extents in
        record {
          apart = apart_present e p;
          long = long_of (present e) n (λ i l. rw (at_there e i l) (long_at n g i q hg (omega (arith, there e i l))));
        }

    pub guest_distinct : pages_shared tables ≡ false → Distinct (extents_of tables g)
    guest_distinct p =
        let e = (guest_at tables g).extents in
        distinct_of (present e) (λ i j h l.
        rw (at_there e i (omega arith), at_there e j l) (apart_at g i g j p hg (omega (arith, there e j l)) (omega (arith, there e j l)) (omega arith)))

  module _ (g f : ℕ) (hg : g < guest_limit) (hf : f < guest_limit) (few : (guest_at tables g).extents.extents ≤ extent_limit) (few' : (guest_at tables f).extents.extents ≤ extent_limit) where
    pub guests_strangers : pages_shared tables ≡ false → (g ≡ f → ⊥) → Strangers (extents_of tables g) (extents_of tables f)
    guests_strangers p n =
        let e = (guest_at tables g).extents in
        let e' = (guest_at tables f).extents in
        strangers (extents_of tables g) (extents_of tables f)
        (cross_of (present e) (present e') (λ i j l h. rw (at_there e i l, at_there e' j h) (either i j (omega (arith, there e i l)) (omega (arith, there e' j h)))))
      where
        either : (i j : ℕ) → i < extent_limit → j < extent_limit → share (held g i) (held f j) ≡ false
        either i j hi hj = go (leb g f) refl
          where
            go : (t : Bool) → leb g f ≡ t → share (held g i) (held f j) ≡ false
            go true e = apart_at g i f j p hf hi hj (omega (arith, n, leb-true g f e))
            go false e = share_swap (held g i) (held f j) ∙ apart_at f j g i p hg hj hi (omega (arith, leb-false g f e))
