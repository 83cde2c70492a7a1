-- Set version leaves a record that keeps the rules.
use Rattle.std.specs.Prelude.{if◌then◌else◌, Option, Some, None}
use mathlib.Core.Path.{◌≡◌, refl, ap, ◌∙◌}
use mathlib.Core.Bool.{Bool, true, false, ◌&&◌, ◌||◌, not, and-false, or-true}
use mathlib.Core.List.{map}
use Prim.Native.Nat.{ℕ, ◌≤◌, ◌<◌}
use native.Mathlib.Omega.{arith}
use lib.Dec.{leb, ltb, eqb}
use lib.ListN.{get_or, get_or-map}
use borrow.Author.Tests.{le-leb, leb-true, ltb-true, ltb-false, ne_eqb, eqb-true, eqb-false}
use Rattle.rules.specs.declared.Answer.TheVariants.{One}
use Rattle.rules.specs.declared.Group.{Group}
use Rattle.rules.specs.declared.Plant.{Plant}
use Rattle.rules.specs.declared.Refusal.TheVariants.{EINVAL, ENOTSUPPORTED}
use Rattle.rules.specs.declared.Source.{Source}
use Rattle.rules.specs.declared.Versions.{Versions}
use Rattle.rules.specs.Limits.{source_limit}
use Rattle.rules.specs.Kept.{source_at, blank_source, with_versions}
use Rattle.rules.specs.Rulings.{Ruling, Outcome, says, ◌or_refuse◌then◌}
use Rattle.rules.specs.Versions.{group_of, known, newest, major_of, with_major, disabled, all_disabled, negotiated, set_version}
use Rattle.rules.specs.Tables.{list_right, cookie_right, enabled_right, source_right, source_blank, versions_right, plant_keeps}
use Rattle.rules.proofs.Tests.{and_left, and_right}
use Rattle.kept.proofs.Accepted.{list_right_lem}
use Rattle.records.proofs.SoundLaws.{plant_sources}
use Rattle.kept.proofs.Lists.{list_past}
use Rattle.kept.proofs.Plants.{Kept, first_part, cpus_part_lem, sources_part_lem, source_there}
use Rattle.kept.proofs.Rulings.{Fine, fine_then}
use Rattle.kept.proofs.Sources.{made, name_part_lem, enabled_part, state_part, target_part, cookie_part}

module _ (v : ℕ → ℕ → Bool) (plant : Plant) (e : plant_keeps v plant ≡ true) where
  cpus_least : leb 1 plant.cpus ≡ true
  cpus_least = and_left (leb 1 plant.cpus) (versions_right plant.versions) (first_part v plant e)

  versions_right_lem : versions_right plant.versions ≡ true
  versions_right_lem = and_right (leb 1 plant.cpus) (versions_right plant.versions) (first_part v plant e)

  blank_past : (i : ℕ) → plant.sources ≤ i → i < source_limit → source_blank (source_at plant i) ≡ true
  blank_past = list_past source_limit plant.sources (λ i. source_right plant (source_at plant i)) (λ i. source_blank (source_at plant i)) (sources_part_lem v plant e)

  -- other versions, under which the sources are right
  versions_kept : (n : Versions) → versions_right n ≡ true → plant.versions.core ≤ n.core → ((i : ℕ) → i < plant.sources → source_right (with_versions plant n) (source_at plant i) ≡ true) → Kept v plant (with_versions plant n)
  unfolding plant_keeps
  versions_kept n r l f = record { keeps = rw (cpus_least, r, cpus_part_lem v plant e) places; core = l; cpus = refl; sources = refl; named = λ i. (refl, refl) }
    where
      places : list_right source_limit plant.sources (λ i. source_right (with_versions plant n) (source_at plant i)) (λ i. source_blank (source_at plant i)) ≡ true
      places = list_right_lem source_limit plant.sources (λ i. source_right (with_versions plant n) (source_at plant i)) (λ i. source_blank (source_at plant i)) (plant_sources v plant e) f blank_past

  disabled_at : (i : ℕ) → get_or (map disabled plant.source) i blank_source ≡ disabled (source_at plant i)
  disabled_at i = get_or-map disabled plant.source i blank_source

  disabled_blank : (s : Source) → source_blank s ≡ true → source_blank (disabled s) ≡ true
  unfolding source_blank
  disabled_blank s b =
      let name : Bool = eqb s.devhandle 0 && (eqb s.devino 0 && not s.cookies) in
      let rest : Bool = eqb s.target 0 && eqb s.cookie 0 in
      let all : Bool = (eqb s.enabled 0 && eqb s.state 0) && rest in
      rw (and_left name all b, and_right (eqb s.enabled 0) (eqb s.state 0) (and_left (eqb s.enabled 0 && eqb s.state 0) rest (and_right name all b)))
      (and_right (eqb s.enabled 0 && eqb s.state 0) rest (and_right name all b))

  -- the same with every source disabled
  disabled_kept : (n : Versions) → versions_right n ≡ true → plant.versions.core ≤ n.core → ((i : ℕ) → i < plant.sources → source_right (with_versions plant n) (disabled (source_at plant i)) ≡ true) → Kept v plant (all_disabled (with_versions plant n))
  unfolding plant_keeps all_disabled source_right
  disabled_kept n r l f = record {
    keeps = rw (cpus_least, r, cpus_part_lem v plant e) places;
    core = l;
    cpus = refl;
    sources = refl;
    named = λ i. (ap (λ (s : Source). s.devhandle) (disabled_at i), ap (λ (s : Source). s.devino) (disabled_at i));
  }
    where
      places : list_right source_limit plant.sources (λ i. source_right (with_versions plant n) (get_or (map disabled plant.source) i blank_source)) (λ i. source_blank (get_or (map disabled plant.source) i blank_source)) ≡ true
      places =
          list_right_lem source_limit plant.sources (λ i. source_right (with_versions plant n) (get_or (map disabled plant.source) i blank_source)) (λ i. source_blank (get_or (map disabled plant.source) i blank_source)) (plant_sources v plant e)
          (λ i h. ap (source_right (with_versions plant n)) (disabled_at i) ∙ f i h)
          (λ i h l. ap source_blank (disabled_at i) ∙ disabled_blank (source_at plant i) (blank_past i h l))

  -- the same version of group 2
  same_interrupt : (n : Versions) (i : ℕ) → i < plant.sources → n.interrupt ≡ plant.versions.interrupt → source_right (with_versions plant n) (source_at plant i) ≡ true
  unfolding source_right
  same_interrupt n i h q = rw q (source_there v plant e i h)

  -- before 2.0 no source has a cookie
  no_cookie : (i : ℕ) → i < plant.sources → plant.versions.interrupt < 2 → eqb (source_at plant i).cookie 0 ≡ true
  unfolding cookie_right
  no_cookie i h l = go (eqb (source_at plant i).cookie 0) (rw (ne_eqb plant.versions.interrupt 2 (λ q. omega arith), and-false) at (cookie_part plant (source_at plant i) (source_there v plant e i h)))
    where
      go : (t : Bool) → (t || false) ≡ true → t ≡ true
      go true p = refl
      go false p = p

  -- the parts of the rule on versions
  abbrev first_two : Bool
  first_two = leb plant.versions.sun4v 1 && leb plant.versions.core 1

  abbrev last_two : Bool
  last_two = leb plant.versions.interrupt 2 && leb plant.versions.statistics 1

  first_right : first_two ≡ true
  unfolding versions_right
  first_right = and_left first_two last_two versions_right_lem

  last_right : last_two ≡ true
  unfolding versions_right
  last_right = and_right first_two last_two versions_right_lem

  sun4v_right : leb plant.versions.sun4v 1 ≡ true
  sun4v_right = and_left (leb plant.versions.sun4v 1) (leb plant.versions.core 1) first_right

  core_right : leb plant.versions.core 1 ≡ true
  core_right = and_right (leb plant.versions.sun4v 1) (leb plant.versions.core 1) first_right

  interrupt_right : leb plant.versions.interrupt 2 ≡ true
  interrupt_right = and_left (leb plant.versions.interrupt 2) (leb plant.versions.statistics 1) last_right

  statistics_right : leb plant.versions.statistics 1 ≡ true
  statistics_right = and_right (leb plant.versions.interrupt 2) (leb plant.versions.statistics 1) last_right

  made_right : (n : Versions) → leb n.sun4v 1 ≡ true → leb n.core 1 ≡ true → leb n.interrupt 2 ≡ true → leb n.statistics 1 ≡ true → versions_right n ≡ true
  unfolding versions_right
  made_right n a b c d = rw (a, b, c, d)

  module _ (major : ℕ) (least : 1 ≤ major) where
    -- a group that has only 1.0
    not_two : (x : Bool) → major ≤ 1 → (x && eqb major 2) ≡ false
    not_two x h = ap (λ (t : Bool). x && t) (ne_eqb major 2 (λ q. omega arith)) ∙ and-false x

    only_one : (group : Option Group) → major ≤ 1 → Kept v plant (with_versions plant (with_major plant.versions group major)) → Kept v plant (negotiated plant group major)
    unfolding negotiated
    only_one group h k = rw (not_two (ltb (major_of plant.versions group) major) h) k

    -- group 2
    abbrev next : Versions
    next = with_major plant.versions (Some Group.Interrupt) major

    next_right : major ≤ 2 → versions_right next ≡ true
    next_right h = made_right next sun4v_right core_right (le-leb major 2 h) statistics_right

    first_negotiated : major ≤ 2 → plant.versions.interrupt < major → (major ≡ 2 → ⊥) → (i : ℕ) → i < plant.sources → source_right (with_versions plant next) (source_at plant i) ≡ true
    unfolding cookie_right enabled_right
    first_negotiated h l n i j =
        let s = source_at plant i in
        let r = source_there v plant e i j in
        made (with_versions plant next) s (name_part_lem plant s r) (enabled_part plant s r) (state_part plant s r) (target_part plant s r)
        (rw (no_cookie i j (omega arith))) (rw (ne_eqb major 0 (λ q. omega arith), ne_eqb major 2 n) (or-true (eqb s.enabled 0)))

    to_two : major ≡ 2 → plant.versions.interrupt < major → (i : ℕ) → i < plant.sources → source_right (with_versions plant next) (disabled (source_at plant i)) ≡ true
    unfolding cookie_right enabled_right
    to_two two l i j =
        let s = source_at plant i in
        let r = source_there v plant e i j in
        made (with_versions plant next) (disabled s) (name_part_lem plant s r) refl (state_part plant s r) (target_part plant s r) (rw (no_cookie i j (omega arith))) refl

    interrupt_kept : major ≤ 2 → plant.versions.interrupt ≤ major → Kept v plant (negotiated plant (Some Group.Interrupt) major)
    unfolding negotiated
    interrupt_kept h m = go (ltb plant.versions.interrupt major) refl (eqb major 2) refl
      where
        go : (t : Bool) → ltb plant.versions.interrupt major ≡ t → (u : Bool) → eqb major 2 ≡ u → Kept v plant (if t && u then all_disabled (with_versions plant next) else with_versions plant next)
        go true p true q = disabled_kept next (next_right h) (omega arith) (to_two (eqb-true major 2 q) (ltb-true plant.versions.interrupt major p))
        go true p false q = versions_kept next (next_right h) (omega arith) (first_negotiated h (ltb-true plant.versions.interrupt major p) (eqb-false major 2 q))
        go false p u q =
            let same : major ≡ plant.versions.interrupt = omega (arith, ltb-false plant.versions.interrupt major p) in
            versions_kept next (next_right h) (omega arith) (λ i j. same_interrupt next i j same)

    negotiated_kept : (group : Option Group) → major ≤ newest group → major_of plant.versions group ≤ major → Kept v plant (negotiated plant group major)
    negotiated_kept None h m = absurd (omega arith)
    negotiated_kept (Some Group.Sun4v) h m = only_one (Some Group.Sun4v) h (versions_kept (with_major plant.versions (Some Group.Sun4v) major) (made_right (with_major plant.versions (Some Group.Sun4v) major) (le-leb major 1 h) core_right interrupt_right statistics_right) (omega arith) (λ i j. same_interrupt (with_major plant.versions (Some Group.Sun4v) major) i j refl))
    negotiated_kept (Some Group.Core) h m = only_one (Some Group.Core) h (versions_kept (with_major plant.versions (Some Group.Core) major) (made_right (with_major plant.versions (Some Group.Core) major) sun4v_right (le-leb major 1 h) interrupt_right statistics_right) m (λ i j. same_interrupt (with_major plant.versions (Some Group.Core) major) i j refl))
    negotiated_kept (Some Group.Interrupt) h m = interrupt_kept h m
    negotiated_kept (Some Group.Statistics) h m = only_one (Some Group.Statistics) h (versions_kept (with_major plant.versions (Some Group.Statistics) major) (made_right (with_major plant.versions (Some Group.Statistics) major) sun4v_right core_right interrupt_right (le-leb major 1 h)) (omega arith) (λ i j. same_interrupt (with_major plant.versions (Some Group.Statistics) major) i j refl))

  pub set_version_fine : (group major : ℕ) → Fine v plant (set_version plant group major)
  unfolding set_version
  set_version_fine group major =
      let g : Option Group = group_of group in
      let last : Ruling Outcome = says (One 0) (negotiated plant g major) in
      let offered : Bool = leb 1 major && leb major (newest g) in
      fine_then v plant e (known g) EINVAL (offered or_refuse ENOTSUPPORTED then leb (major_of plant.versions g) major or_refuse ENOTSUPPORTED then last) (λ _.
      fine_then v plant e offered ENOTSUPPORTED (leb (major_of plant.versions g) major or_refuse ENOTSUPPORTED then last) (λ o.
      fine_then v plant e (leb (major_of plant.versions g) major) ENOTSUPPORTED last (λ m.
      negotiated_kept major (leb-true 1 major (and_left (leb 1 major) (leb major (newest g)) o)) g
      (leb-true major (newest g) (and_right (leb 1 major) (leb major (newest g)) o)) (leb-true (major_of plant.versions g) major m))))
