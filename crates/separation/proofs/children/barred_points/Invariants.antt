use Rattle.std.proofs.Common.{◌≡◌}
use Rattle.std.specs.Prelude.{map, filter}
use Rattle.gridded.specs.CellSets.{is_among as has_cell}
use Rattle.gridded.specs.Small.{point_at}
use Rattle.rule_kinds.specs.Children.{barred_half}
use Rattle.separation.proofs.OnLines.{cells_on}
use Rattle.separation.proofs.children.barred_points.Given as goal

abbrev pub invariant-loop-place : goal.invariant-loop-place
invariant-loop-place l = l.points.items ≡ map (λ c. point_at (barred_half l.axis l.set c)) (filter (has_cell l.whole) (cells_on l.axis l.line l.place))
