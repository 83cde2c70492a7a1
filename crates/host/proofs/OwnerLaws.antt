-- The search for the owner of a raise, at each return of the code.
use Rattle.std.proofs.Common.{Some, None}
use mathlib.Core.Path.{◌≡◌}
use mathlib.Core.Bool.{Bool, true}
use mathlib.Core.List.{List}
use Prim.Native.Nat.{ℕ, ◌≤◌, ◌<◌}
use lib.ListN.{get_or}
use Rattle.rules.specs.declared.Device.{Device}
use Rattle.rules.specs.declared.Guest.{Guest}
use Rattle.rules.specs.Kept.{hollow_guest}
use Rattle.rules.specs.Scan.{first_below}
use Rattle.rules.proofs.Scan.{first_found, first_end}
use Rattle.host.specs.Owners.{has_source, raise_owner}

-- the search over the guests: t is what the test of guest g came to
module _ (n : ℕ) (guest : List Guest) (d : Device) where
  abbrev pub has : ℕ → Bool
  has g = has_source (get_or guest g hollow_guest).plant d

  pub owner_found_lem : (g : ℕ) (t : Bool) → g < n → first_below g has ≡ None → t ≡ has g → t ≡ true → Some g ≡ raise_owner n guest d
  unfolding raise_owner
  owner_found_lem g t h a b e = first_found has g n t h a b e

  pub owner_none : (g : ℕ) → first_below g has ≡ None → g ≤ n → n ≤ g → None ≡ raise_owner n guest d
  unfolding raise_owner
  owner_none g a u v = first_end has g n a u v
