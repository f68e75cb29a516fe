use Rattle.emptiness.specs.ByCell.{IsByCell}
use Rattle.emptiness.proofs.by_cell.by_cell.Given as goal

abbrev pub invariant-loop-cell : goal.invariant-loop-cell
invariant-loop-cell l = IsByCell l.patterns l.index.items
