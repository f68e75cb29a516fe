use Rattle.std.proofs.Common.{◌≡◌, map}
use Rattle.std.specs.Prelude.{flat_map}
use Rattle.rule_kinds.specs.Kinds.{axis_of}
use Rattle.rule_kinds.specs.Lines.{numbers_below}
use Rattle.rule_kinds.specs.Choices.{points_on}
use Rattle.placement.specs.Placing.{applying, in_both}
use Rattle.placement.proofs.lines.line_placements.Given as goal

abbrev pub invariant-loop-line : goal.invariant-loop-line
invariant-loop-line l = l.kinds.items ≡ applying l.tiling (flat_map (in_both l.first l.second) (map (λ i. points_on (axis_of l.first) i l.tiling) (numbers_below l.line)))
