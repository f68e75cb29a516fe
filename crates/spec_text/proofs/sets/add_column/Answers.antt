use Rattle.std.proofs.Common.{◌∙◌}
use Rattle.spec_text.proofs.SetCells.{one_cell_more}
use Rattle.spec_text.proofs.sets.add_column.Goals as goal

pub loop-y-preserved : goal.loop-y-preserved
loop-y-preserved c = c.in_ok-add_cell.ensures ∙ one_cell_more c.args.set c.args.cells.now.items c.loop-y.cells.items c.args.x c.loop-y.y c.loop-y.invariant
