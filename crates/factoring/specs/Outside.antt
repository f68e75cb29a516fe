-- The points that a factor forbids.
use Rattle.std.specs.Prelude.{ℕ, not, List, map, filter, cond, [], ◌∷◌}
use Rattle.std.specs.List.{range_with_len}
use Rattle.gridded.specs.declared.cell.Cell.{Cell}
use Rattle.gridded.specs.CellSets.{is_among}
use Rattle.gridded.specs.Grids.{Point}
use Rattle.gridded.specs.Small.{point_at}

-- the point at a cell, where the cell is not in the set
abbrev pub barred_at : List Cell → Cell → List (List Point)
barred_at set c = cond (not (is_among set c)) (point_at c ∷ []) []

-- the points at the n lowest cells of a column that are not in the set
abbrev pub barred_in : List Cell → ℕ → ℕ → List (List Point)
barred_in set x n = map point_at (filter (λ c. not (is_among set c)) (map (λ y. record { x = x; y = y }) (range_with_len 0 n)))
