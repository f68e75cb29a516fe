use Rattle.std.proofs.Common.{◌∙◌, arith}
use Rattle.tiling_core.proofs.GridCells.{is_set_from, one_more_pattern}
use Rattle.tiling_core.proofs.active_cells.point_cells.Goals as goal

pub with_point-cells-requires-clause-is_set : goal.with_point-cells-requires-clause-is_set
with_point-cells-requires-clause-is_set c = is_set_from _ c.loop-pattern.cells c.loop-pattern.invariant

pub loop-pattern-preserved : goal.loop-pattern-preserved
loop-pattern-preserved c = c.with_point-cells.ensures ∙ one_more_pattern c.args.patterns.now c.loop-pattern.pattern-index c.pattern-item.result c.loop-pattern.cells (omega arith) c.pattern-item.is c.loop-pattern.invariant
