use Rattle.std.proofs.Common.{◌≡◌, take}
use Rattle.std.specs.Prelude.{map}
use Rattle.steps.specs.Steps.{cleaned}
use Rattle.steps.proofs.clean_step.all_cleaned.Given as goal

abbrev pub invariant-loop-g : goal.invariant-loop-g
invariant-loop-g l = l.left.items ≡ map (cleaned l.cell) (take l.g-index l.patterns)
