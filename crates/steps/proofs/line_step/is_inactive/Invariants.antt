use Rattle.std.proofs.Common.{◌≡◌, ◌<◌, ℕ, true}
use Rattle.tiling_core.specs.Patterns.{forbids}
use Rattle.gridded.specs.Small.{point_at}
use Rattle.gridded.specs.Axes.{cell_on}
use Rattle.steps.proofs.line_step.is_inactive.Given as goal

abbrev pub invariant-loop-place : goal.invariant-loop-place
invariant-loop-place l = (k : ℕ) → k < l.place → forbids l.tiling (point_at (cell_on l.axis l.line k)) ≡ true
