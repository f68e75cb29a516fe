use Rattle.std.proofs.Common.{◌≡◌, take}
use Rattle.std.specs.Prelude.{not}
use Rattle.std.specs.List.{filter}
use Rattle.steps.specs.Steps.{is_implied}
use Rattle.steps.proofs.list_step.without_implied.Given as goal

abbrev pub invariant-loop-patterns : goal.invariant-loop-patterns
invariant-loop-patterns l = l.kept.items ≡ filter (λ others. not (is_implied l.lists others)) (take l.patterns-index l.lists)
