-- Columns and rows alike.
use Rattle.std.specs.Prelude.{ℕ, Bool, ◌||◌, ◌==◌, List}
use Rattle.std.specs.List.{position_or_len}
use Rattle.gridded.specs.declared.axis.Axis.{Axis}
use Rattle.gridded.specs.declared.axis.Axis.TheVariants.{Column, Row}
use Rattle.gridded.specs.declared.cell.Cell.{Cell}
use Rattle.gridded.specs.Grids.{Point}

-- the line of a cell
abbrev pub line_of : Axis → Cell → ℕ
line_of Column c = c.x
line_of Row c = c.y

-- the cell at the same place of another line
abbrev pub with_line : Axis → ℕ → Cell → Cell
with_line Column i c = record { x = i; y = c.y }
with_line Row i c = record { x = c.x; y = i }

-- the other lines
abbrev pub across : Axis → Axis
across Column = Row
across Row = Column

abbrev pub is_on : Axis → ℕ → Cell → Bool
is_on a i c = line_of a c == i

-- the cell at a place of a line
abbrev pub cell_on : Axis → ℕ → ℕ → Cell
cell_on a i k = with_line a i (record { x = k; y = k })

abbrev pub shares_line : Cell → Cell → Bool
shares_line c d = (c.x == d.x) || (c.y == d.y)

-- how far up a point of g stands, or how far right
abbrev pub rank_along : Axis → List Point → Point → ℕ
rank_along Row g p = p.letter
rank_along Column g p = position_or_len (λ q. q.letter == p.letter) g
