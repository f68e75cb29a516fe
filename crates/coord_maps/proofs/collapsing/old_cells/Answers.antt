use Rattle.std.proofs.Common.{arith, length-set, ◌∙◌}
use Rattle.coord_maps.proofs.Moves.{old_cells-more}
use Rattle.coord_maps.proofs.collapsing.old_cells.Goals as goal

pub loop-place-preserved : goal.loop-place-preserved
loop-place-preserved c = (
  length-set c.loop-place.old c.loop-place.place c.old_cell.result ∙ c.loop-place.invariant.0,
  old_cells-more c.args.map.now c.loop-place.old c.args.cells.now c.loop-place.place _ _ (omega (arith, c.loop-place.invariant.0)) (omega arith) c.loop-place.invariant.1 c.old_cell.ensures,
)
