use Rattle.std.proofs.Common.{◌≡◌, take}
use Rattle.std.specs.Prelude.{map}
use Rattle.steps.specs.Steps.{cleaned_list}
use Rattle.steps.proofs.clean_step.cleaned_lists.Given as goal

abbrev pub invariant-loop-patterns : goal.invariant-loop-patterns
invariant-loop-patterns l = l.left.items ≡ map (cleaned_list l.cell) (take l.patterns-index l.lists)
