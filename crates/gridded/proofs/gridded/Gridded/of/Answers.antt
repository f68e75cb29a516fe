use Rattle.gridded.proofs.Accepted.{accepted_fits, gridded_not_refused}
use Rattle.gridded.proofs.gridded.Gridded.of.Goals as goal

pub from_consistent-requires : goal.from_consistent-requires
from_consistent-requires c = accepted_fits c.args.letters.now c.args.cells.now c.requires c.in-Ok.ensures

pub returns-in-Err-clause-made : goal.returns-in-Err-clause-made
returns-in-Err-clause-made c = λ h. gridded_not_refused c.args.letters.now c.args.cells.now c.in-Err.fault h c.in-Err.ensures
