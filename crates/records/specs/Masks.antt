-- The test of a page mask that is a function of its own in the code.
use Rattle.std.specs.Prelude.{Bool, ◌&&◌, ℕ}
use Rattle.rules.specs.Tsb.{is_page_index, is_lowest}

-- a page index that is the lowest bit set in the mask
unfoldable pub lowest_index : ℕ → ℕ → Bool
lowest_index mask index = is_page_index index && is_lowest mask index
