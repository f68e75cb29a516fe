use Rattle.std.proofs.Common.{◌≡◌, take}
use Rattle.std.specs.Prelude.{map}
use Rattle.rule_kinds.specs.Children.{factor}
use Rattle.factoring.proofs.children.factored.Given as goal

abbrev pub invariant-loop-set : goal.invariant-loop-set
invariant-loop-set l = l.factors.items ≡ map (factor l.tiling) (take l.set-index l.sets)
