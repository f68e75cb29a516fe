use Rattle.std.proofs.Common.{◌≡◌, ◌<◌, ℕ, false}
use Rattle.gridded.specs.Axes.{with_line}
use Rattle.gridded.specs.CellSets.{is_among}
use Rattle.normal_form.proofs.lines.meets.Given as goal

abbrev pub invariant-loop-place : goal.invariant-loop-place
invariant-loop-place l = (k : ℕ) → k < l.place → is_among l.set (with_line l.axis l.line (record { x = k; y = k })) ≡ false
