-- Patterns of at most ten points, as letters and cells.
use Rattle.std.specs.Prelude.{◌≡◌, ℕ, true, List, length}
use Rattle.gridded.specs.declared.cell.Cell.{Cell}
use Rattle.gridded.specs.Grids.{points}
use Rattle.spec_lines.specs.Forms.{is_pattern}

pub record IsWide (letters : List ℕ) (cells : List Cell) : Type 0 where
  pub as_many : length letters ≡ length cells
  pub pattern : is_pattern (points letters cells) ≡ true
