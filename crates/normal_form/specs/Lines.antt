-- What a set of cells tells of the lines that no pattern touches.
use Rattle.std.specs.Prelude.{◌≡◌, Bool, not, ◌&&◌, ◌||◌, ◌==◌, List, length}
use Rattle.std.specs.List.{list_any}
use Rattle.gridded.specs.declared.cell.Cell.{Cell}
use Rattle.gridded.specs.Grids.{Point}
use Rattle.gridded.specs.Places.{touches}
use Rattle.tiling_core.specs.Tiles.{Tiles}
use Rattle.tiling_core.specs.Patterns.{active_cells}

-- some cell of the pattern passes, and it is no single point
abbrev pub touches_longer : (Cell → Bool) → List Point → Bool
touches_longer test g = not (length g == 1) && touches test g

-- whether an active cell passes, or one of an obstruction that is no single point, or one of a list's pattern
abbrev pub is_used : (Cell → Bool) → Tiles → Bool
is_used test t =
    list_any test (active_cells t) || list_any (touches_longer test) t.obstructions || list_any (list_any (touches test)) t.requirements

-- the cells are those that are used
abbrev pub AreUsed : List Cell → Tiles → Type 0
AreUsed cells t = (test : Cell → Bool) → list_any test cells ≡ is_used test t
