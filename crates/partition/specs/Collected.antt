-- What the pairs are looked for among: the host's runs of pages, and the names of its sources, each list side by side.
use Rattle.std.specs.Prelude.{Bool, false, ◌&&◌, List, ℕ, ◌*◌, eqb, if◌then◌else◌, Option, Some, None}
use Rattle.rules.specs.declared.Extent.{Extent}
use Rattle.rules.specs.declared.Tables.{Tables}
use Rattle.rules.specs.Limits.{guest_limit, extent_limit, source_limit}
use Rattle.rules.specs.Kept.{blank_extent}
use Rattle.rules.specs.Image.{filled, run_at, listed, listed_at}
use Rattle.partition.specs.declared.Name.{Name}

abbrev pub run_limit : ℕ
run_limit = guest_limit * extent_limit

unfoldable pub runs_of : Tables → List Extent
runs_of tables = filled run_limit blank_extent (run_at tables) run_limit

abbrev pub name_limit : ℕ
name_limit = guest_limit * source_limit

-- what place k for a source names, where there is a source
abbrev pub name_at : Tables → ℕ → Option Name
name_at tables k = if listed tables k then Some (record { devhandle = (listed_at tables k).devhandle; devino = (listed_at tables k).devino }) else None

unfoldable pub names_of : Tables → List (Option Name)
names_of tables = filled name_limit None (name_at tables) name_limit

-- two names of one source
abbrev pub alike : Option Name → Option Name → Bool
alike None y = false
alike (Some x) None = false
alike (Some x) (Some y) = eqb x.devhandle y.devhandle && eqb x.devino y.devino
