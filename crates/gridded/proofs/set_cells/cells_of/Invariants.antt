use Rattle.std.proofs.Common.{◌≡◌}
use Rattle.std.specs.List.{flat_map, range_with_len}
use Rattle.gridded.specs.CellSets.{column_of}
use Rattle.gridded.proofs.set_cells.cells_of.Given as goal

abbrev pub invariant-loop-x : goal.invariant-loop-x
invariant-loop-x l = l.found.items ≡ flat_map (λ x. column_of l.set x 8) (range_with_len 0 l.x)
