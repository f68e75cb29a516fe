-- Insertions at the cells of sets.
use Rattle.std.specs.Prelude.{ℕ, Bool, not, ◌&&◌, List, map, filter, cond, [], ◌∷◌}
use Rattle.std.specs.List.{range_with_len}
use Rattle.gridded.specs.declared.cell.Cell.{Cell}
use Rattle.gridded.specs.CellSets.{is_among}
use Rattle.gridded.specs.Small.{point_at}
use Rattle.rule_kinds.specs.declared.kind.Kind.{Kind}
use Rattle.rule_kinds.specs.declared.kind.Kind.TheVariants as kind

-- whether a cell is in the one set and not in the other
abbrev pub is_open : List Cell → List Cell → Cell → Bool
is_open active required c = is_among active c && not (is_among required c)

abbrev pub insert_at : Cell → Kind
insert_at c = kind.Insert (point_at c)

-- the insertion at a cell, where it is open
abbrev pub insertion_at : List Cell → List Cell → Cell → List Kind
insertion_at active required c = cond (is_open active required c) (insert_at c ∷ []) []

-- the insertions at the n lowest cells of a column
abbrev pub insertions_in : List Cell → List Cell → ℕ → ℕ → List Kind
insertions_in active required x n = map insert_at (filter (is_open active required) (map (λ y. record { x = x; y = y }) (range_with_len 0 n)))
