use Rattle.std.proofs.Common.{◌≡◌}
use Rattle.std.specs.Prelude.{◌&&◌, ◌||◌}
use Rattle.std.specs.List.{list_any}
use Rattle.gridded.specs.CellSets.{is_among as has_cell}
use Rattle.gridded.specs.Orders.{cell_eq}
use Rattle.rule_kinds.specs.Choices.{is_bound}
use Rattle.separation.proofs.OnLines.{first_places}
use Rattle.separation.proofs.bound.grown.Given as goal

abbrev pub invariant-loop-place : goal.invariant-loop-place
invariant-loop-place l = l.larger ≡ first_places l.axis l.line l.place (λ d. has_cell l.whole d && list_any (λ c. cell_eq c d || is_bound l.axis l.tiling c d) l.set)
