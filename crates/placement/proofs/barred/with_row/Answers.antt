use Rattle.std.proofs.Common.{arith}
use Rattle.placement.proofs.barred.with_row.Goals as goal

pub loop-x-preserved : goal.loop-x-preserved
loop-x-preserved c = λ h below k. c.with_beside-cells.ensures c.args.width h (c.loop-x.invariant h below k) (omega arith, below)
