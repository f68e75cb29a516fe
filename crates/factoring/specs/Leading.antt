-- Closures that are found one after another.
use Rattle.std.specs.Prelude.{not, ◌&&◌, List, cond, [], ◌∷◌}
use Rattle.std.specs.List.{list_any}
use Rattle.gridded.specs.declared.cell.Cell.{Cell}
use Rattle.gridded.specs.CellSets.{is_among}
use Rattle.tiling_core.specs.Tiles.{Tiles}
use Rattle.tiling_core.specs.Patterns.{active_cells}
use Rattle.rule_kinds.specs.Choices.{closure, is_linked}

-- the closure of a cell, where the cell is active and in none of the sets yet
abbrev pub newly_found : Tiles → List (List Cell) → Cell → List (List Cell)
newly_found t sets c = cond (is_among (active_cells t) c && not (list_any (λ set. is_among set c) sets)) (closure (is_linked t) (active_cells t) c ∷ []) []
