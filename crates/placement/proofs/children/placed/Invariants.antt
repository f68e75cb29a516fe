use Rattle.std.proofs.Common.{◌≡◌, ◌∷◌, [], take, map}
use Rattle.tiling_core.specs.Patterns.{also}
use Rattle.rule_kinds.specs.Children.{patterns_pointed, placed}
use Rattle.placement.proofs.children.placed.Given as goal

abbrev pub invariant-loop-at : goal.invariant-loop-at
invariant-loop-at l = l.children.items ≡ also l.tiling (patterns_pointed l.pointed) [] ∷ map (placed l.tiling l.pointed l.direction) (take l.at-index l.pointed)
