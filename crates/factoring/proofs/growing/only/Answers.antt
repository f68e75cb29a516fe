use Rattle.factoring.proofs.Rounds.{one_cell}
use Rattle.factoring.proofs.growing.only.Goals as goal

pub returns : goal.returns
returns c = one_cell c.args.cell c.with.result c.none.result c.none.ensures c.with.ensures.cells c.with.ensures.set
