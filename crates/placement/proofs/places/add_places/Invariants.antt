use Rattle.std.proofs.Common.{◌≡◌, ◌++◌, map}
use Rattle.rule_kinds.specs.Lines.{numbers_below}
use Rattle.placement.specs.Placing.{kinds_in_all}
use Rattle.placement.proofs.places.add_places.Given as goal

abbrev pub invariant-loop-index : goal.invariant-loop-index
invariant-loop-index l = l.kinds.items ≡ l.initial.kinds.items ++ kinds_in_all l.tiling (map (λ index. record { pattern = l.pattern; index = index }) (numbers_below l.index))
