use Rattle.separation.proofs.Halves.{kind_refused}
use Rattle.separation.proofs.children.cut_child.Goals as goal

pub returns-then-not-can_cut-clause-refused : goal.returns-then-not-can_cut-clause-refused
returns-then-not-can_cut-clause-refused c = kind_refused c.args.axis c.args.tiling.now c.args.line c.args.set c.can_cut.result c.can_cut.ensures c.if-not-can_cut.true
