use Rattle.factoring.proofs.Barred.{column_step}
use Rattle.factoring.proofs.children.add_column.Goals as goal

pub loop-y-preserved : goal.loop-y-preserved
loop-y-preserved c = column_step c.args.set c.args.x c.loop-y.y c.args.points.now.items c.loop-y.points.items c.add_at.new.points.items c.loop-y.invariant c.in_ok-add_at.ensures
