-- What each scan of the image's rules finds: the first fault of its kind, and nothing where there is none.
use Rattle.std.proofs.Common.{Some, None}
use mathlib.Core.Path.{◌≡◌, refl, sym, ap, ◌∙◌}
use mathlib.Core.Bool.{Bool, true, false, ◌&&◌, true≢false}
use mathlib.Core.Logic.{inl, inr}
use Prim.Native.Nat.{ℕ, zero, suc, ◌+◌, ◌-◌, ◌*◌, ◌/◌, ◌%◌, ◌≤◌, ◌<◌, min, max}
use native.Mathlib.Omega.{arith}
use lib.Dec.{leb, ltb, eqb}
use borrow.Author.Tests.{ltb-true, ltb-false, lt-ltb, leb-true, leb-false, eqb-true, eqb-false, eq-eqb, ne_eqb, not-true}
use Rattle.rules.specs.declared.Extent.{Extent}
use Rattle.rules.specs.declared.Extents.{Extents}
use Rattle.rules.specs.declared.Guest.{Guest}
use Rattle.rules.specs.declared.Tables.{Tables}
use Rattle.rules.specs.Limits.{guest_limit, extent_limit, source_limit}
use Rattle.rules.specs.Scan.{some_below}
use Rattle.rules.specs.Kept.{guest_at, plant_at, extent_at, blank_extent, blank_guest}
use Rattle.rules.specs.Image.{right_at, follows, breaks, first_breaking, run_at, share, shares_before, listed, listed_at, twins, named_before}
use Rattle.rules.proofs.Tests.{and_left, and_right}
use Rattle.kept.proofs.Accepted.{AsRead, past_blank}
use Rattle.promises.specs.Places.{Before, First, Nowhere, extent_of, HasExtent, HasSource, WrongNumbers, OrderClash, HasPage, PagesClash, NamesClash, OutOfOrder, SharesPages, NamedAgain}
use Rattle.promises.proofs.PlaceLaws.{some_tells, Seen, seen_by, some_earlier, earlier_place, first_place, no_place}

-- A guest's extents: one that does not follow the one before it, and one that starts before the end of any before it.
module _ (e : Extents) where
  -- extent i starts before the end of extent j
  abbrev StartsIn : ℕ → ℕ → Type 0
  StartsIn i j = (extent_at e i).real < (extent_at e j).real + (extent_at e j).count

  next_follows : (i : ℕ) → follows e (suc i) ≡ leb ((extent_at e i).real + (extent_at e i).count) (extent_at e (suc i)).real
  unfolding follows
  next_follows i =
      let z : suc i - 1 ≡ i = omega arith in
      rw (ne_eqb (suc i) 0 (λ q. omega arith), z)

  not_following : (i : ℕ) → follows e i ≡ false → (j : ℕ) × ((i ≡ suc j) × StartsIn i j)
  unfolding follows
  not_following zero f = absurd (true≢false f)
  not_following (suc i) f = (i, (refl, leb-false _ _ (sym (next_follows i) ∙ f)))

  -- if there is one of the second kind, then there is one of the first at or before it
  not_ascending : (j i : ℕ) → j < i → StartsIn i j → (m : ℕ) × ((m ≤ i) × (follows e m ≡ false))
  not_ascending j zero h l = absurd (omega arith)
  not_ascending j (suc i) h l = go (not_ascending j i) (follows e (suc i)) refl (eqb j i) refl
    where
      go : (j < i → StartsIn i j → (m : ℕ) × ((m ≤ i) × (follows e m ≡ false))) → (s : Bool) → follows e (suc i) ≡ s → (t : Bool) → eqb j i ≡ t → (m : ℕ) × ((m ≤ suc i) × (follows e m ≡ false))
      go before false f t q = (suc i, (omega arith, f))
      go before true f true q =
          let z : j ≡ i = eqb-true j i q in
          let u : (extent_at e i).real + (extent_at e i).count ≤ (extent_at e (suc i)).real = leb-true _ _ (sym (next_follows i) ∙ f) in
          absurd (omega (arith, rw z at l))
      go before true f false q =
          let u : (extent_at e i).real + (extent_at e i).count ≤ (extent_at e (suc i)).real = leb-true _ _ (sym (next_follows i) ∙ f) in
          let w = before (omega (arith, eqb-false j i q)) (omega arith) in
          (w.0, (omega (arith, w.1.0), w.1.1))

-- two extents share where a page is of both
share_page : (x y : Extent) → share x y ≡ true → (page : ℕ) × (HasPage x page × HasPage y page)
unfolding share
share_page x y e =
    let l : max x.host y.host < min (x.host + x.count) (y.host + y.count) = ltb-true _ _ e in
    (max x.host y.host, ((omega arith, omega arith), (omega arith, omega arith)))

page_shared : (x y : Extent) (page : ℕ) → HasPage x page → HasPage y page → share x y ≡ true
unfolding share
page_shared x y page a b =
    let l : max x.host y.host < min (x.host + x.count) (y.host + y.count) = omega arith in
    lt-ltb _ _ l

-- tables as the fields give them
module _ (t : Tables) (a : AsRead t) where
  -- a guest that has an extent or a source is there
  has_guest : (count : Guest → ℕ) → count blank_guest ≡ 0 → (g : ℕ) → g < guest_limit → 0 < count (guest_at t g) → g < t.guests
  has_guest count z g l h = go (ltb g t.guests) refl
    where
      go : (s : Bool) → ltb g t.guests ≡ s → g < t.guests
      go true e = ltb-true g t.guests e
      go false e = absurd (omega (arith, ap count (a.absent g (ltb-false g t.guests e) l)))

  has_extent : (g i : ℕ) → g < guest_limit → i < (guest_at t g).extents.extents → HasExtent t g i
  has_extent g i l h = (has_guest (λ x. x.extents.extents) refl g l (omega arith), h)

  has_source_lem : (g i : ℕ) → g < guest_limit → i < (plant_at t g).sources → HasSource t g i
  has_source_lem g i l h = (has_guest (λ x. x.plant.sources) refl g l (omega arith), h)

  -- an extent that has a page is there
  extent_past : (g i : ℕ) → g < guest_limit → (guest_at t g).extents.extents ≤ i → extent_of t g i ≡ blank_extent
  extent_past g i l h = go (ltb g t.guests) refl
    where
      go : (s : Bool) → ltb g t.guests ≡ s → extent_of t g i ≡ blank_extent
      go true e = (a.there g (ltb-true g t.guests e)).extent_past i h
      go false e = rw (a.absent g (ltb-false g t.guests e) l) (past_blank extent_limit blank_extent i)

  paged_there : (g i page : ℕ) → g < guest_limit → HasPage (extent_of t g i) page → HasExtent t g i
  paged_there g i page l h = go (ltb i (guest_at t g).extents.extents) refl
    where
      go : (s : Bool) → ltb i (guest_at t g).extents.extents ≡ s → HasExtent t g i
      go true e = has_extent g i l (ltb-true _ _ e)
      go false e = absurd (omega (arith, rw (extent_past g i l (ltb-false i (guest_at t g).extents.extents e)) at h))

  -- what is there stands at a place that is looked at
  extent_few : (g i : ℕ) → HasExtent t g i → (g < guest_limit) × (i < extent_limit)
  extent_few g i h = (omega (arith, a.guests_most), omega (arith, (a.there g h.0).extents_most))

  source_few : (g i : ℕ) → HasSource t g i → (g < guest_limit) × (i < source_limit)
  source_few g i h = (omega (arith, a.guests_most), omega (arith, (a.there g h.0).sources_most))

  -- extent k of the host breaks the rule
  module _ (rule : Extents → ℕ → Bool) where
    abbrev broken : ℕ → Bool
    broken k = breaks rule (guest_at t (k / extent_limit)).extents (k % extent_limit)

    broken_there : (k : ℕ) → k < guest_limit * extent_limit → broken k ≡ true
        → HasExtent t (k / extent_limit) (k % extent_limit) × (rule (guest_at t (k / extent_limit)).extents (k % extent_limit) ≡ false)
    unfolding breaks
    broken_there k h e =
        let there : k % extent_limit < (guest_at t (k / extent_limit)).extents.extents = ltb-true _ _ (and_left _ _ e) in
        (has_extent (k / extent_limit) (k % extent_limit) (omega arith) there, not-true _ (and_right (ltb (k % extent_limit) (guest_at t (k / extent_limit)).extents.extents) _ e))

    broken_seen : (g i m : ℕ) → HasExtent t g i → m ≤ i → rule (guest_at t g).extents m ≡ false → Seen extent_limit broken g i
    unfolding breaks
    broken_seen g i m h l e =
        let few = extent_few g i h in
        let q : (extent_limit * g + m) / extent_limit ≡ g = omega (arith, few) in
        let r : (extent_limit * g + m) % extent_limit ≡ m = omega (arith, few) in
        seen_by extent_limit (omega arith) broken g i m few.0 few.1 l
        (rw (q, r, lt-ltb m (guest_at t g).extents.extents (omega arith), e))

  -- 112: the scan finds what is wrong, and each that is wrong is seen
  wrong_found : (k : ℕ) → k < guest_limit * extent_limit → broken right_at k ≡ true → WrongNumbers t (k / extent_limit) (k % extent_limit)
  wrong_found k h e =
      let w = broken_there right_at k h e in
      record { there = w.0; wrong = w.1 }

  wrong_seen : (g i : ℕ) → WrongNumbers t g i → Seen extent_limit (broken right_at) g i
  wrong_seen g i x = broken_seen right_at g i i x.there (omega arith) x.wrong

  pub numbers_first : (k : ℕ) → first_breaking right_at t ≡ Some k → First (WrongNumbers t) (k / extent_limit) (k % extent_limit)
  unfolding first_breaking
  numbers_first k e = first_place extent_limit (omega arith) (broken right_at) (WrongNumbers t) wrong_found wrong_seen k e

  pub numbers_none : first_breaking right_at t ≡ None → Nowhere (WrongNumbers t)
  unfolding first_breaking
  numbers_none e = no_place extent_limit (omega arith) (broken right_at) (WrongNumbers t) wrong_found wrong_seen e

  -- 113: it finds the one that does not follow, which is there no later than any that clashes
  order_found : (k : ℕ) → k < guest_limit * extent_limit → broken follows k ≡ true → OutOfOrder t (k / extent_limit) (k % extent_limit)
  order_found k h e =
      let w = broken_there follows k h e in
      let n = not_following (guest_at t (k / extent_limit)).extents (k % extent_limit) w.1 in
      record {
        guest = k / extent_limit;
        position = n.0;
        before = inr (refl, omega (arith, n.1.0));
        clash = record { earlier = (w.0.0, omega (arith, n.1.0, w.0.1)); later = w.0; one_guest = refl; starts_before = n.1.1 };
      }

  order_seen : (g i : ℕ) → OutOfOrder t g i → Seen extent_limit (broken follows) g i
  order_seen g i x = go x.guest x.before x.clash
    where
      go : (f : ℕ) → Before f x.position g i → OrderClash t f x.position g i → Seen extent_limit (broken follows) g i
      go f (inl l) c = absurd (omega (arith, c.one_guest))
      go f (inr (e, l)) c =
          let s : (extent_of t g i).real < (extent_of t g x.position).real + (extent_of t g x.position).count = rw e at c.starts_before in
          let w = not_ascending (guest_at t g).extents x.position i l s in
          broken_seen follows g i w.0 c.later w.1.0 w.1.1

  pub order_first : (k : ℕ) → first_breaking follows t ≡ Some k → First (OutOfOrder t) (k / extent_limit) (k % extent_limit)
  unfolding first_breaking
  order_first k e = first_place extent_limit (omega arith) (broken follows) (OutOfOrder t) order_found order_seen k e

  pub order_none : first_breaking follows t ≡ None → Nowhere (OutOfOrder t)
  unfolding first_breaking
  order_none e = no_place extent_limit (omega arith) (broken follows) (OutOfOrder t) order_found order_seen e

  -- 114: two runs share where both are there and a page is of both
  abbrev shares : ℕ → Bool
  shares k = some_below k (λ m. share (run_at t m) (run_at t k))

  run_is : (g i : ℕ) → i < extent_limit → run_at t (extent_limit * g + i) ≡ extent_of t g i
  unfolding run_at
  run_is g i h =
      let q : (extent_limit * g + i) / extent_limit ≡ g = omega arith in
      let r : (extent_limit * g + i) % extent_limit ≡ i = omega arith in
      rw (q, r)

  pages_found : (k : ℕ) → k < guest_limit * extent_limit → shares k ≡ true → SharesPages t (k / extent_limit) (k % extent_limit)
  unfolding run_at
  pages_found k h e =
      let w = some_tells (λ m. share (run_at t m) (run_at t k)) k e in
      let m : ℕ = w.0 in
      let l : m < k = w.1.0 in
      let s = share_page (run_at t m) (run_at t k) w.1.1 in
      record {
        guest = m / extent_limit;
        position = m % extent_limit;
        before = earlier_place extent_limit (omega arith) m k l;
        clash = record {
          earlier = paged_there (m / extent_limit) (m % extent_limit) s.0 (omega arith) s.1.0;
          later = paged_there (k / extent_limit) (k % extent_limit) s.0 (omega arith) s.1.1;
          page = s.0;
          of_earlier = s.1.0;
          of_later = s.1.1;
        };
      }

  pages_seen : (g i : ℕ) → SharesPages t g i → Seen extent_limit shares g i
  pages_seen g i x =
      let c : PagesClash t x.guest x.position g i = x.clash in
      let one = extent_few x.guest x.position c.earlier in
      let few = extent_few g i c.later in
      seen_by extent_limit (omega arith) shares g i i few.0 few.1 (omega arith)
      (some_earlier extent_limit (omega arith) (λ m. share (run_at t m) (run_at t (extent_limit * g + i))) x.guest x.position g i one.1 x.before
      (rw (run_is x.guest x.position one.1, run_is g i few.1) (page_shared _ _ c.page c.of_earlier c.of_later)))

  pub pages_first : (k : ℕ) → shares_before t ≡ Some k → First (SharesPages t) (k / extent_limit) (k % extent_limit)
  unfolding shares_before
  pages_first k e = first_place extent_limit (omega arith) shares (SharesPages t) pages_found pages_seen k e

  pub pages_none : shares_before t ≡ None → Nowhere (SharesPages t)
  unfolding shares_before
  pages_none e = no_place extent_limit (omega arith) shares (SharesPages t) pages_found pages_seen e

  -- 115: two names are alike where both are there
  abbrev twin : ℕ → Bool
  twin k = listed t k && some_below k (λ m. twins t m k)

  listed_there : (k : ℕ) → k < guest_limit * source_limit → listed t k ≡ true → HasSource t (k / source_limit) (k % source_limit)
  listed_there k h e = has_source_lem (k / source_limit) (k % source_limit) (omega arith) (ltb-true _ _ e)

  names_found : (k : ℕ) → k < guest_limit * source_limit → twin k ≡ true → NamedAgain t (k / source_limit) (k % source_limit)
  unfolding twins
  names_found k h e =
      let w = some_tells (λ m. twins t m k) k (and_right (listed t k) _ e) in
      let m : ℕ = w.0 in
      let l : m < k = w.1.0 in
      let n = and_right (listed t m) _ w.1.1 in
      record {
        guest = m / source_limit;
        position = m % source_limit;
        before = earlier_place source_limit (omega arith) m k l;
        clash = record {
          earlier = listed_there m (omega arith) (and_left (listed t m) _ w.1.1);
          later = listed_there k h (and_left (listed t k) _ e);
          same_devhandle = eqb-true _ _ (and_left _ _ n);
          same_devino = eqb-true _ _ (and_right (eqb (listed_at t m).devhandle (listed_at t k).devhandle) _ n);
        };
      }

  source_number : (g i : ℕ) → HasSource t g i → ((source_limit * g + i) / source_limit ≡ g) × ((source_limit * g + i) % source_limit ≡ i)
  source_number g i h =
      let few = source_few g i h in
      (omega (arith, few), omega (arith, few))

  there_listed : (g i : ℕ) → HasSource t g i → listed t (source_limit * g + i) ≡ true
  there_listed g i h =
      let n = source_number g i h in
      rw (n.0, n.1) (lt-ltb i (plant_at t g).sources h.1)

  clash_twins : (f j g i : ℕ) → NamesClash t f j g i → twins t (source_limit * f + j) (source_limit * g + i) ≡ true
  unfolding twins
  clash_twins f j g i c =
      let m = source_number f j c.earlier in
      let n = source_number g i c.later in
      rw (there_listed f j c.earlier, m.0, m.1, n.0, n.1, eq-eqb _ _ c.same_devhandle, eq-eqb _ _ c.same_devino)

  names_seen : (g i : ℕ) → NamedAgain t g i → Seen source_limit twin g i
  names_seen g i x =
      let c : NamesClash t x.guest x.position g i = x.clash in
      let one = source_few x.guest x.position c.earlier in
      let few = source_few g i c.later in
      seen_by source_limit (omega arith) twin g i i few.0 few.1 (omega arith)
      (rw (there_listed g i c.later)
      (some_earlier source_limit (omega arith) (λ m. twins t m (source_limit * g + i)) x.guest x.position g i one.1 x.before (clash_twins x.guest x.position g i c)))

  pub names_first : (k : ℕ) → named_before t ≡ Some k → First (NamedAgain t) (k / source_limit) (k % source_limit)
  unfolding named_before
  names_first k e = first_place source_limit (omega arith) twin (NamedAgain t) names_found names_seen k e

  pub names_none : named_before t ≡ None → Nowhere (NamedAgain t)
  unfolding named_before
  names_none e = no_place source_limit (omega arith) twin (NamedAgain t) names_found names_seen e
