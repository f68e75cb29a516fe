use Rattle.std.proofs.Common.{◌≡◌, ◌-◌, take}
use Rattle.std.specs.Prelude.{map, slice_index}
use Rattle.css_prune.proofs.picked.places_of.Given as goal

abbrev pub invariant-loop-child : goal.invariant-loop-child
invariant-loop-child l = l.found.items ≡ map (λ child. slice_index l.places child.0 - 1) (take l.child-index l.children)
