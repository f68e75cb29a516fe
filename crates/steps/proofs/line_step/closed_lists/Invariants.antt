use Rattle.std.proofs.Common.{◌≡◌, take}
use Rattle.std.specs.Prelude.{map}
use Rattle.std.specs.List.{filter}
use Rattle.steps.specs.Steps.{close_up, misses}
use Rattle.steps.proofs.line_step.closed_lists.Given as goal

abbrev pub invariant-loop-patterns : goal.invariant-loop-patterns
invariant-loop-patterns l = l.kept.items ≡ map (λ patterns. map (close_up l.axis l.line) (filter (misses l.axis l.line) patterns)) (take l.patterns-index l.lists)
