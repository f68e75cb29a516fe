-- The cells of the column up to a row.
use Rattle.std.proofs.Common.{◌≡◌, ◌++◌}
use Rattle.spec_text.proofs.SetCells.{in_column}
use Rattle.spec_text.proofs.sets.add_column.Given as goal

abbrev pub invariant-loop-y : goal.invariant-loop-y
invariant-loop-y l = l.cells.items ≡ l.initial.cells.items ++ in_column l.set l.x l.y
