use Rattle.std.proofs.Common.{sym, ◌∙◌}
use Rattle.tiling_core.proofs.GridCells.{one_point}
use Rattle.tiling_core.proofs.active_cells.with_point.Goals as goal

pub returns-then-len-eq1 : goal.returns-then-len-eq1
returns-then-len-eq1 c = rw c.cells.ensures.value at c.with.ensures.value ∙ one_point c.args.set c.args.pattern.now _ c.len.ensures.gridded (sym c.len.ensures.value ∙ c.if-len-eq1.true)
