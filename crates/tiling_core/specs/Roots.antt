-- The tiling of a basis, and the tilings with one member or none.
use Rattle.std.specs.Prelude.{ℕ, ◌==◌, List, [], ◌∷◌, map, if◌then◌else◌}
use Rattle.gridded.specs.declared.cell.Cell.{Cell}
use Rattle.gridded.specs.Grids.{Point}
use Rattle.tiling_core.specs.Tiles.{Tiles, tiling_of}
use Rattle.gridded.specs.Small.{point_at, rising, falling}

-- the cell of a grid of one column and one row
abbrev pub only_cell : Cell
only_cell = record { x = 0; y = 0 }

-- a word with all its letters in that cell
abbrev pub in_one_cell : List ℕ → List Point
in_one_cell w = map (λ l. record { letter = l; cell = only_cell }) w

-- the tiling of one cell whose members are the permutations that avoid the basis
abbrev pub root_of : List (List ℕ) → Tiles
root_of basis = tiling_of 1 1 (map in_one_cell basis) []

-- the tiling whose one member has no point
abbrev pub unit_tiling : Tiles
unit_tiling = tiling_of 0 0 [] []

-- the tiling whose one member is a point
abbrev pub point_tiling : Tiles
point_tiling = tiling_of 1 1 (rising only_cell only_cell ∷ falling only_cell only_cell ∷ []) ((point_at only_cell ∷ []) ∷ [])

-- the tiling with no member
abbrev pub void_tiling : Tiles
void_tiling = tiling_of 0 0 ([] ∷ []) []

-- 1 at length k, 0 at each other
abbrev pub one_at : ℕ → ℕ → ℕ
one_at k n = if n == k then 1 else 0
