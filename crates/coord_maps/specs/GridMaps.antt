-- Maps of grids: one for the columns and one for the rows.
use Rattle.std.specs.Prelude.{Bool, List, map}
use Rattle.gridded.specs.declared.cell.Cell.{Cell}
use Rattle.gridded.specs.Grids.{Point}
use Rattle.gridded.specs.Places.{fits_grid}
use Rattle.gridded.specs.Moved.{move_cells}
use Rattle.coord_maps.specs.declared.grid_map.GridMap.{GridMap}
use Rattle.coord_maps.specs.LineMaps.{IsCut, new_lines, old_line}

-- what the two maps keep
pub record IsGridMap (m : GridMap) : Type 0 where
  pub columns : IsCut m.columns
  pub rows : IsCut m.rows

-- the old cell of a new one
abbrev pub old_cell : GridMap → Cell → Cell
old_cell m c = record { x = old_line m.columns c.x; y = old_line m.rows c.y }

-- the old cells of some new ones
abbrev pub old_cells : GridMap → List Cell → List Cell
old_cells m cells = map (old_cell m) cells

-- the gridded permutation of the old grid with the same letters
abbrev pub collapse : GridMap → List Point → List Point
collapse m g = move_cells (old_cell m) g

-- whether the cells lie in the old grid
abbrev pub fits_old : GridMap → List Point → Bool
fits_old m g = fits_grid m.columns.lines m.rows.lines g

-- whether the cells lie in the new grid
abbrev pub fits_new : GridMap → List Point → Bool
fits_new m g = fits_grid (new_lines m.columns) (new_lines m.rows) g
