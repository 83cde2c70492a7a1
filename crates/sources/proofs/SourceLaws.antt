-- What the source of a name, n, says of its position and its record.
use Rattle.std.proofs.Common.{◌≡◌, refl, sym, ap, ◌∙◌, ℕ, ◌<◌, Option, Some, None}
use Rattle.rules.specs.declared.Plant.{Plant}
use Rattle.rules.specs.declared.Source.{Source}
use Rattle.rules.specs.Kept.{source_at}
use Rattle.rules.specs.Sources.{sysino_of}
use Rattle.rules.proofs.Scan.{first_below_lem}
use Rattle.sources.specs.Seen.{named_as, named_in}

module _ (plant : Plant) where
  as_nothing : (f : Option ℕ) → None ≡ named_as plant f → None ≡ f
  unfolding named_as
  as_nothing None e = refl
  as_nothing (Some i) e = cc

  as_at : (f : Option ℕ) (i : ℕ) (s : Source) → Some (i, s) ≡ named_as plant f → (Some i ≡ f) × (s ≡ source_at plant i)
  unfolding named_as
  as_at None i s e = cc
  as_at (Some j) i s e =
      let q : ◌≡◌ {A = ℕ × Source} (i, s) (j, source_at plant j) = cc in
      let a : i ≡ j = ap (λ (u : ℕ × Source). u.0) q in
      (ap Some a, rw a (ap (λ (u : ℕ × Source). u.1) q))

module _ (plant : Plant) (devhandle devino : ℕ) (n : Option (ℕ × Source)) (p : n ≡ named_in plant devhandle devino) where
  pub named_nothing : n ≡ None → None ≡ sysino_of plant devhandle devino
  named_nothing e = as_nothing plant _ (sym e ∙ p)

  module _ (i : ℕ) (s : Source) (e : n ≡ Some (i, s)) where
    pub named_at : Some i ≡ sysino_of plant devhandle devino
    named_at = (as_at plant _ i s (sym e ∙ p)).0

    pub named_source : s ≡ source_at plant i
    named_source = (as_at plant _ i s (sym e ∙ p)).1

    pub named_there : i < plant.sources
    unfolding sysino_of
    named_there = first_below_lem _ i _ (sym named_at)
