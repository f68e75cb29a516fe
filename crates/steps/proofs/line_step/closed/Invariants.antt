use Rattle.std.proofs.Common.{◌≡◌, take}
use Rattle.std.specs.Prelude.{map}
use Rattle.std.specs.List.{filter}
use Rattle.steps.specs.Steps.{close_up, misses}
use Rattle.steps.proofs.line_step.closed.Given as goal

abbrev pub invariant-loop-g : goal.invariant-loop-g
invariant-loop-g l = l.kept.items ≡ map (close_up l.axis l.line) (filter (misses l.axis l.line) (take l.g-index l.patterns))
