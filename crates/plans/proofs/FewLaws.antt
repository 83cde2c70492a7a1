-- Tables that keep the rules are few enough to print.
use Prim.Native.Nat.{ℕ, ◌+◌, ◌<◌, ◌≤◌}
use mathlib.Core.Path.{◌≡◌}
use mathlib.Core.Bool.{true}
use mathlib.Core.List.{List}
use native.Mathlib.Omega.{arith}
use Rattle.rules.specs.declared.Tables.{Tables}
use Rattle.rules.specs.Limits.{guest_limit, extent_limit, source_limit}
use Rattle.rules.specs.Scan.{each_below}
use Rattle.rules.specs.Kept.{guest_at}
use Rattle.rules.specs.Tables.{keep_rules}
use Rattle.rules.specs.Plan.{guest_lines}
use Rattle.records.proofs.SoundLaws.{plant_sources}
use Rattle.tables.proofs.SoundTables.{guests_few, extents_few, extents_keep_lem, plant_keeps_lem}
use Rattle.text.specs.Put.{Put}
use Rattle.plans.proofs.EachLaws.{each_place}
use Rattle.plans.proofs.LineLaws.{guest_most}

module _ (tables : Tables) (keep : keep_rules tables ≡ true) where
  pub place_there : (i : ℕ) → i < tables.guests → i < guest_limit
  place_there i h = omega (arith, guests_few tables keep)

  pub few_extents : (g : ℕ) → g < tables.guests → (guest_at tables g).extents.extents ≤ extent_limit
  few_extents g h = extents_few _ (extents_keep_lem tables keep g h)

  pub few_sources : (g : ℕ) → g < tables.guests → (guest_at tables g).plant.sources ≤ source_limit
  few_sources g h = plant_sources _ _ (plant_keeps_lem tables keep g h)

  -- behind the first i guests there is room for one more
  pub guest_room : (m o : List ℕ) (i at : ℕ) → Put m o 0 at (each_below i (λ g. guest_lines (guest_at tables g))) → i < tables.guests → at + 1460 ≤ 8192
  guest_room m o i at w h =
      let short : (g : ℕ) → g < i → _ = λ g l. guest_most (guest_at tables g) (few_extents g (omega arith)) (few_sources g (omega arith)) in
      omega (arith, guests_few tables keep, each_place _ _ _ _ _ _ w 1357 short)
