-- The patterns of a list by the cells of their points.
use Rattle.std.specs.Prelude.{◌≡◌, Bool, List, filter, All}
use Rattle.std.specs.List.{list_any}
use Rattle.gridded.specs.declared.cell.Cell.{Cell}
use Rattle.gridded.specs.Grids.{Point}
use Rattle.gridded.specs.Orders.{cell_eq, cells_of}
use Rattle.emptiness.specs.declared.by_cell.At.{At}

abbrev pub has_point_in : Cell → List Point → Bool
has_point_in c p = list_any (cell_eq c) (cells_of p)

-- what an index tells of a cell is what the list has there
abbrev pub IsByCell : List (List Point) → List At → Type 0
IsByCell patterns index = All (λ (at : At). at.patterns ≡ filter (has_point_in at.cell) patterns) index
