use Rattle.std.proofs.Common.{◌≡◌}
use Rattle.std.specs.Prelude.{◌&&◌}
use Rattle.gridded.specs.CellSets.{is_among as has_cell}
use Rattle.separation.proofs.OnLines.{first_places}
use Rattle.separation.proofs.lines.shared.Given as goal

abbrev pub invariant-loop-place : goal.invariant-loop-place
invariant-loop-place l = l.found ≡ first_places l.axis l.line l.place (λ c. has_cell l.set c && has_cell l.other c)
