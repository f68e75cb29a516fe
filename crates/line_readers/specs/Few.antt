-- At most ten cells are kept.
use Rattle.std.specs.Prelude.{◌≡◌, ◌<◌, ◌⊎◌, List, length, Option, Some, None}
use Rattle.gridded.specs.declared.cell.Cell.{Cell}

-- what was read, where it is at most ten cells; nothing where there are more, or none can be read
abbrev pub IsFew : Option (List Cell) → Option (List Cell) → Type 0
IsFew (Some cells) read = read ≡ Some cells
IsFew None read = (cells : List Cell) → read ≡ Some cells → 10 < length cells
