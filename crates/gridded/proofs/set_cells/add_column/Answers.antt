use Rattle.gridded.proofs.SetCells.{column-step}
use Rattle.gridded.proofs.set_cells.add_column.Goals as goal

pub loop-y-preserved : goal.loop-y-preserved
loop-y-preserved c = column-step c.args.set c.args.x c.loop-y.y c.args.found.now.items c.loop-y.found.items c.add_cell.new.found.items c.loop-y.invariant c.in_ok-add_cell.ensures
