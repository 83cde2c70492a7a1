-- The search for the guest that has a source.
use Rattle.std.specs.Prelude.{Bool, List, ℕ, ◌≤◌, ◌<◌, get_or, Option}
use Rattle.rules.specs.declared.Device.{Device}
use Rattle.rules.specs.declared.Guest.{Guest}
use Rattle.rules.specs.declared.Plant.{Plant}
use Rattle.rules.specs.Kept.{hollow_guest}
use Rattle.rules.specs.Limits.{guest_limit, source_limit}
use Rattle.rules.specs.Scan.{first_below, is_found}
use Rattle.rules.specs.Sources.{sysino_of}

-- no more guests, and in each no more sources, than there are places
pub record Counted (guests : ℕ) (guest : List Guest) : Type 0 where
  pub few : guests ≤ guest_limit
  pub each : (g : ℕ) → g < guests → (get_or guest g hollow_guest).plant.sources ≤ source_limit

unfoldable pub has_source : Plant → Device → Bool
has_source plant d = is_found (sysino_of plant d.devhandle d.devino)

unfoldable pub raise_owner : ℕ → List Guest → Device → Option ℕ
raise_owner guests guest d = first_below guests (λ g. has_source (get_or guest g hollow_guest).plant d)
