use Rattle.std.proofs.Common.{◌≡◌, take}
use Rattle.gridded.specs.CellSets.{cells_that}
use Rattle.tiling_core.specs.Patterns.{is_among}
use Rattle.gridded.specs.Small.{point_at}
use Rattle.tiling_core.proofs.active_cells.point_cells.Given as goal

abbrev pub invariant-loop-pattern : goal.invariant-loop-pattern
invariant-loop-pattern l = l.cells ≡ cells_that (λ c. is_among (take l.pattern-index l.patterns) (point_at c))
