use Rattle.placement.proofs.Counted.{too_few}
use Rattle.placement.proofs.counting.left_by_all.Goals as goal

pub returns-in-None : goal.returns-in-None
returns-in-None c = too_few c.args.map.now c.args.lists.now c.loop-patterns.patterns-index c.patterns-item.result c.loop-patterns.left c.args.most c.loop-patterns-test.true c.patterns-item.is c.loop-patterns.invariant (rw c.as_slice.ensures at c.in-None.ensures)
