-- The number 8x + y of a cell, which tells it among the cells with x and y below 8.
use Rattle.std.specs.Prelude.{◌≡◌, ℕ, Bool, ◌&&◌, nat_lt, List, map, length, take, IsTrue}
use Rattle.std.specs.List.{list_all}
use Rattle.gridded.specs.declared.cell.Cell.{Cell}
use Rattle.gridded.specs.CellSets.{bit_of}

-- whether all cells have x and y below 8
abbrev pub are_small : List Cell → Bool
are_small cells = list_all (λ c. nat_lt c.x 8 && nat_lt c.y 8) cells

-- the first numbers are those of the cells, which have x and y below 8
pub record AreNumbers (cells : List Cell) (numbers : List ℕ) : Type 0 where
  pub places : length numbers ≡ 9
  pub small : IsTrue (are_small cells)
  pub value : take (length cells) numbers ≡ map bit_of cells
