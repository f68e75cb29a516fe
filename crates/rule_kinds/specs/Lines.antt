-- Columns and rows alike, and words on the cells and small patterns of a tiling.
use Rattle.std.specs.Prelude.{ℕ, Bool, not, ◌==◌, List, filter}
use Rattle.std.specs.List.{range_with_len}
use Rattle.gridded.specs.declared.axis.Axis.{Axis}
use Rattle.gridded.specs.declared.cell.Cell.{Cell}
use Rattle.gridded.specs.Axes.{line_of, with_line}
use Rattle.gridded.specs.Grids.{Point, cells_in}
use Rattle.tiling_core.specs.Tiles.{Tiles}
use Rattle.gridded.specs.Places.{fits_grid}
use Rattle.tiling_core.specs.Patterns.{active_cells, forbids}
use Rattle.gridded.specs.Small.{point_at}
use Rattle.steps.specs.Steps.{sides}

-- how many lines there are
abbrev pub lines : Axis → Tiles → ℕ
lines a t = line_of a (sides t)

-- the cell at the same place of another line
abbrev pub on_line : Axis → (ℕ → ℕ) → Cell → Cell
on_line a f c = with_line a (f (line_of a c)) c

abbrev pub in_grid : Tiles → List Point → Bool
in_grid t g = fits_grid t.width t.height g

-- for a cell of the grid, whether it is active
abbrev pub is_active : Tiles → Cell → Bool
is_active t c = not (forbids t (point_at c))

abbrev pub cells_of_grid : Tiles → List Cell
cells_of_grid t = cells_in t.width t.height

-- the active cells of line i, ascending
abbrev pub active_on : Axis → ℕ → Tiles → List Cell
active_on a i t = filter (λ c. line_of a c == i) (active_cells t)

abbrev pub numbers_below : ℕ → List ℕ
numbers_below n = range_with_len 0 n
