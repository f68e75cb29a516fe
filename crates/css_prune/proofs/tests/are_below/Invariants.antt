use Rattle.std.proofs.Common.{◌<◌, ℕ}
use Rattle.std.specs.Prelude.{map, slice_index}
use Rattle.css_prune.proofs.tests.are_below.Given as goal

abbrev pub invariant-loop-child : goal.invariant-loop-child
invariant-loop-child l = (slot : ℕ) → slot < l.child-index → slice_index (map (λ child. child.0) l.children) slot < l.classes
