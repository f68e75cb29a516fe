use Rattle.placement.proofs.Beside.{column_step}
use Rattle.placement.proofs.alone.add_beside_in.Goals as goal

pub loop-y-preserved : goal.loop-y-preserved
loop-y-preserved c = column_step c.args.middle c.args.x c.loop-y.y c.args.found.now.items c.loop-y.found.items c.add_beside.new.found.items c.loop-y.invariant c.in_ok-add_beside.ensures
