use Rattle.std.proofs.Common.{arith}
use Rattle.placement.proofs.barred.with_column.Goals as goal

pub loop-y-preserved : goal.loop-y-preserved
loop-y-preserved c = λ w below k. c.with_beside-cells.ensures w c.args.height (c.loop-y.invariant w below k) (below, omega arith)
