-- Cells that a set is tied to: by one bundle, or by a line.
use Rattle.std.specs.Prelude.{ℕ, Bool, not, ◌||◌, ◌&&◌, ◌==◌, List, length}
use Rattle.std.specs.List.{list_any}
use Rattle.gridded.specs.declared.cell.Cell.{Cell}
use Rattle.gridded.specs.Axes.{shares_line}
use Rattle.gridded.specs.CellSets.{is_among}
use Rattle.gridded.specs.Grids.{Point}
use Rattle.gridded.specs.Places.{touches}

-- the bundle has a point in the set, and one in a cell that passes
abbrev pub is_tied : List Cell → (Cell → Bool) → List (List Point) → Bool
is_tied set test bundle = list_any (touches (is_among set)) bundle && list_any (touches test) bundle

-- the same of an obstruction, where it is no single point
abbrev pub is_tied_alone : List Cell → (Cell → Bool) → List Point → Bool
is_tied_alone set test g = not (length g == 1) && (touches (is_among set) g && touches test g)

-- whether one of the two cells at a place of a cell's column and row is in the set
abbrev pub has_at : List Cell → Cell → ℕ → Bool
has_at set c place = is_among set (record { x = c.x; y = place }) || is_among set (record { x = place; y = c.y })

-- an active cell that is tied, or shares a line with a cell of the set
abbrev pub is_next : List Cell → List Cell → List Cell → Cell → Bool
is_next active tied set d = is_among active d && (is_among tied d || list_any (λ c. shares_line c d) set)
