use Rattle.std.proofs.Common.{◌∷◌, [], take, map}
use Rattle.tiling_core.specs.Patterns.{also}
use Rattle.rule_kinds.specs.Children.{patterns_pointed, placed}
use Rattle.placement.proofs.Allowed.{AreThinnedSoFar}
use Rattle.placement.proofs.children.placed_thinned.Given as goal

abbrev pub invariant-loop-at : goal.invariant-loop-at
invariant-loop-at l = AreThinnedSoFar (also l.tiling (patterns_pointed l.pointed) [] ∷ map (placed l.tiling l.pointed l.direction) (take l.at-index l.pointed)) l.children.items
