use Rattle.std.proofs.Common.{◌≡◌, take, length}
use Rattle.std.specs.Prelude.{map}
use Rattle.steps.specs.Steps.{close_cell}
use Rattle.steps.proofs.line_step.close_up.Given as goal

abbrev pub invariant-loop-place : goal.invariant-loop-place
invariant-loop-place l = record { long : length l.cells ≡ 9; made : take l.place l.cells ≡ map (close_cell l.axis l.line) (take l.place l.old) }
