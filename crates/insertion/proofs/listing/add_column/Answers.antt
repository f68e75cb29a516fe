use Rattle.insertion.proofs.Listed.{column_step}
use Rattle.insertion.proofs.listing.add_column.Goals as goal

pub loop-y-preserved : goal.loop-y-preserved
loop-y-preserved c = column_step c.args.active c.args.required c.args.x c.loop-y.y c.args.kinds.now.items c.loop-y.kinds.items c.add_at.new.kinds.items c.loop-y.invariant c.in_ok-add_at.ensures
