-- Rows of collapse, preimages and stretch, computed.
use Rattle.std.specs.Prelude.{◌≡◌, ℕ, ◌*◌, List, [], ◌∷◌, length, refl}
use Rattle.gridded.specs.declared.cell.Cell.{Cell}
use Rattle.gridded.specs.Grids.{Point, points}
use Rattle.tiling_core.specs.Tiles.{tiling_of}
use Rattle.coord_maps.specs.declared.grid_map.GridMap.{GridMap}
use Rattle.coord_maps.specs.LineMaps.{Cut, old_line, new_lines}
use Rattle.coord_maps.specs.GridMaps.{collapse}
use Rattle.coord_maps.specs.Preimages.{preimages, completions}
use Rattle.coord_maps.specs.Stretches.{stretch}
use Rattle.coord_maps.specs.Ways.{ways}

abbrev cell : ℕ → ℕ → Cell
cell x y = record { x = x; y = y }

abbrev cut : ℕ → ℕ → ℕ → Cut
cut lines at parts = record { lines = lines; at = at; parts = parts }

-- column 0 and row 0 of 1x1, cut into parts
abbrev single : ℕ → ℕ → GridMap
single columns rows = record { columns = cut 1 0 columns; rows = cut 1 0 rows }

abbrev rising : List Point
rising = points (0 ∷ 1 ∷ []) (cell 0 0 ∷ cell 0 0 ∷ [])

abbrev falling : List Point
falling = points (1 ∷ 0 ∷ []) (cell 0 0 ∷ cell 0 0 ∷ [])

-- lines below the cut stay, later ones go down
old_lines_row : (old_line (cut 3 1 2) 0 ≡ 0) × (old_line (cut 3 1 2) 1 ≡ 1) × (old_line (cut 3 1 2) 2 ≡ 1) × (old_line (cut 3 1 2) 3 ≡ 2)
old_lines_row = (refl, refl, refl, refl)

new_lines_row : new_lines (cut 3 1 2) ≡ 4
new_lines_row = refl

collapse_row : collapse (single 3 3) (points (0 ∷ 1 ∷ []) (cell 1 1 ∷ cell 2 2 ∷ [])) ≡ rising
collapse_row = refl

-- a row that tells columns from rows
collapse_uneven_row : collapse (record { columns = cut 2 1 2; rows = cut 2 0 3 }) (points (0 ∷ 1 ∷ []) (cell 0 2 ∷ cell 2 3 ∷ [])) ≡ points (0 ∷ 1 ∷ []) (cell 0 0 ∷ cell 1 1 ∷ [])
collapse_uneven_row = refl

preimages_row : length (preimages (single 3 3) rising) ≡ 36
preimages_row = refl

completions_row : completions (single 3 3) [] rising ≡ preimages (single 3 3) rising
completions_row = refl

columns_row : preimages (single 2 1) falling ≡ points (1 ∷ 0 ∷ []) (cell 0 0 ∷ cell 0 0 ∷ []) ∷ points (1 ∷ 0 ∷ []) (cell 0 0 ∷ cell 1 0 ∷ []) ∷ points (1 ∷ 0 ∷ []) (cell 1 0 ∷ cell 1 0 ∷ []) ∷ []
columns_row = refl

rows_row : preimages (single 1 2) falling ≡ points (1 ∷ 0 ∷ []) (cell 0 0 ∷ cell 0 0 ∷ []) ∷ points (1 ∷ 0 ∷ []) (cell 0 1 ∷ cell 0 0 ∷ []) ∷ points (1 ∷ 0 ∷ []) (cell 0 1 ∷ cell 0 1 ∷ []) ∷ []
rows_row = refl

stretch_row : length (stretch (single 3 3) (tiling_of 1 1 (rising ∷ []) [])).obstructions ≡ 36
stretch_row = refl

stretch_sides : ((stretch (single 3 2) (tiling_of 1 1 (rising ∷ []) [])).width ≡ 3) × ((stretch (single 3 2) (tiling_of 1 1 (rising ∷ []) [])).height ≡ 2)
stretch_sides = (refl, refl)

-- nine points of one cell, cut into three parts both ways
most_row : ways 9 3 * ways 9 3 ≡ 3025
most_row = refl

-- rows fall from left to right where letters fall
uneven_row : preimages (record { columns = cut 1 0 2; rows = cut 2 0 2 }) (points (1 ∷ 0 ∷ []) (cell 0 1 ∷ cell 0 0 ∷ []))
    ≡ points (1 ∷ 0 ∷ []) (cell 0 2 ∷ cell 0 0 ∷ []) ∷ points (1 ∷ 0 ∷ []) (cell 0 2 ∷ cell 0 1 ∷ []) ∷ points (1 ∷ 0 ∷ []) (cell 0 2 ∷ cell 1 0 ∷ []) ∷ points (1 ∷ 0 ∷ []) (cell 0 2 ∷ cell 1 1 ∷ []) ∷ points (1 ∷ 0 ∷ []) (cell 1 2 ∷ cell 1 0 ∷ []) ∷ points (1 ∷ 0 ∷ []) (cell 1 2 ∷ cell 1 1 ∷ []) ∷ []
uneven_row = refl

-- a list keeps the preimages of all its members
lists_row : (stretch (record { columns = cut 2 1 3; rows = cut 2 0 1 }) (tiling_of 2 2 [] ((points (0 ∷ []) (cell 1 1 ∷ []) ∷ points (1 ∷ 0 ∷ []) (cell 0 1 ∷ cell 1 0 ∷ []) ∷ []) ∷ []))).requirements
    ≡ (points (0 ∷ []) (cell 1 1 ∷ []) ∷ points (0 ∷ []) (cell 2 1 ∷ []) ∷ points (0 ∷ []) (cell 3 1 ∷ []) ∷ points (1 ∷ 0 ∷ []) (cell 0 1 ∷ cell 1 0 ∷ []) ∷ points (1 ∷ 0 ∷ []) (cell 0 1 ∷ cell 2 0 ∷ []) ∷ points (1 ∷ 0 ∷ []) (cell 0 1 ∷ cell 3 0 ∷ []) ∷ []) ∷ []
lists_row = refl
