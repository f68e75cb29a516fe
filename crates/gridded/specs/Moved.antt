-- The same letters in other cells.
use Rattle.std.specs.Prelude.{List, map}
use Rattle.gridded.specs.declared.cell.Cell.{Cell}
use Rattle.gridded.specs.Grids.{Point}

-- the point with its letter in the cell that is given for it
abbrev pub relocated : (Point → Cell) → Point → Point
relocated place p = record { letter = p.letter; cell = place p }

-- the point with its letter in another cell
abbrev pub moved : (Cell → Cell) → Point → Point
moved f p = record { letter = p.letter; cell = f p.cell }

-- the same letters, in cells that are sent elsewhere
abbrev pub move_cells : (Cell → Cell) → List Point → List Point
move_cells f g = map (moved f) g
