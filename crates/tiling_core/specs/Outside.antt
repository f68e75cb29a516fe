-- The first pattern with a cell outside a grid.
use Rattle.std.specs.Prelude.{◌≡◌, ◌<◌, ℕ, false, true, List, [], length, slice_index_or}
use Rattle.gridded.specs.Grids.{Point}
use Rattle.tiling_core.specs.Tiles.{IsInGrid}
use Rattle.gridded.specs.Places.{fits_grid}

-- the first pattern of a list
pub record IsFirstOutside (w h : ℕ) (patterns : List (List Point)) (index : ℕ) : Type 0 where
  pub within : index < length patterns
  pub outside : fits_grid w h (slice_index_or patterns index []) ≡ false
  pub first : (k : ℕ) → k < index → fits_grid w h (slice_index_or patterns k []) ≡ true

-- the first pattern of the first list that has one
pub record IsFirstOfAll (w h : ℕ) (lists : List (List (List Point))) (list index : ℕ) : Type 0 where
  pub within : list < length lists
  pub here : IsFirstOutside w h (slice_index_or lists list []) index
  pub earlier : (k : ℕ) → k < list → IsInGrid w h (slice_index_or lists k [])
