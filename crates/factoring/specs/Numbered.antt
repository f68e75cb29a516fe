-- Cells by their numbers.
use Rattle.std.specs.Prelude.{ℕ, Bool, not, ◌||◌, ◌/◌, ◌%◌, List}
use Rattle.std.specs.List.{list_all, range_with_len}
use Rattle.gridded.specs.declared.cell.Cell.{Cell}
use Rattle.gridded.specs.CellSets.{is_among}

-- 8x + y stands for (x, y)
abbrev pub cell_of : ℕ → Cell
cell_of number = record { x = number / 8; y = number % 8 }

-- whether each cell of a set passes, number by number
abbrev pub pass_by_number : (Cell → Bool) → List Cell → Bool
pass_by_number test cells = list_all (λ n. not (is_among cells (cell_of n)) || test (cell_of n)) (range_with_len 0 64)
