use Rattle.gridded.proofs.CellSets.{none_of_bits}
use Rattle.gridded.proofs.cell_set.CellSet.none.Goals as goal

pub returns : goal.returns
returns c = none_of_bits
