use Rattle.std.proofs.Common.{◌≡◌}
use Rattle.std.specs.Prelude.{◌&&◌, nat_lt}
use Rattle.gridded.specs.CellSets.{cells_that, bit_of}
use Rattle.tiling_core.specs.Patterns.{is_free}
use Rattle.tiling_core.proofs.active_cells.active.Given as goal

abbrev pub invariant-loop-number : goal.invariant-loop-number
invariant-loop-number l = l.active ≡ cells_that (λ c. nat_lt (bit_of c) l.number && is_free l.tiling.width l.tiling.height l.forbidden c)
