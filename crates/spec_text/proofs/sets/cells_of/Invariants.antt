-- The cells of the columns so far.
use Rattle.std.proofs.Common.{◌≡◌}
use Rattle.spec_text.proofs.SetCells.{in_columns}
use Rattle.spec_text.proofs.sets.cells_of.Given as goal

abbrev pub invariant-loop-x : goal.invariant-loop-x
invariant-loop-x l = l.cells.items ≡ in_columns l.set l.x
