use Rattle.std.proofs.Common.{◌≡◌, ◌++◌}
use Rattle.gridded.specs.CellSets.{column_of}
use Rattle.gridded.proofs.set_cells.add_column.Given as goal

abbrev pub invariant-loop-y : goal.invariant-loop-y
invariant-loop-y l = l.found.items ≡ l.initial.found.items ++ column_of l.set l.x l.y
