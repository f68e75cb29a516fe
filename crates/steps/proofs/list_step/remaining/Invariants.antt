use Rattle.std.proofs.Common.{◌≡◌, [], take}
use Rattle.std.specs.Prelude.{map, not}
use Rattle.std.specs.List.{filter}
use Rattle.steps.specs.Steps.{useful}
use Rattle.tiling_core.specs.Patterns.{is_among}
use Rattle.steps.proofs.list_step.remaining.Given as goal

abbrev pub invariant-loop-patterns : goal.invariant-loop-patterns
invariant-loop-patterns l = l.kept.items ≡ filter (λ patterns. not (is_among patterns [])) (map (useful l.obstructions) (take l.patterns-index l.lists))
