-- Sets of cells of one line.
use Rattle.std.specs.Prelude.{◌≡◌, ℕ, Bool, ◌&&◌, List, if◌then◌else◌}
use Rattle.gridded.specs.declared.axis.Axis.{Axis}
use Rattle.gridded.specs.declared.cell.Cell.{Cell}
use Rattle.gridded.specs.Axes.{is_on}
use Rattle.gridded.specs.CellSets.{cells_that, is_among as has_cell, with_cell}

-- a set of cells with x and y below 8, all on line i
abbrev pub IsOfLine : Axis → ℕ → List Cell → Type 0
IsOfLine a i set = set ≡ cells_that (λ c. is_on a i c && has_cell set c)

-- the set, and one more cell where it is wanted
abbrev pub wanted_with : List Cell → Cell → Bool → List Cell
wanted_with set cell wanted = if wanted then with_cell set cell else set
