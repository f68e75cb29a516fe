use Rattle.std.proofs.Common.{◌≡◌, take, map}
use Rattle.std.specs.Prelude.{filter, ◌==◌}
use Rattle.gridded.specs.Axes.{line_of}
use Rattle.placement.specs.Placing.{cell_point}
use Rattle.placement.proofs.lines.points_on.Given as goal

abbrev pub invariant-loop-cell : goal.invariant-loop-cell
invariant-loop-cell l = l.points.items ≡ map cell_point (filter (λ c. line_of l.axis c == l.line) (take l.cell-index l.cells))
