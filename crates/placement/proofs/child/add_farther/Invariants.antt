use Rattle.std.proofs.Common.{◌≡◌, ◌++◌, take}
use Rattle.std.specs.Prelude.{flat_map}
use Rattle.rule_kinds.specs.Children.{lifts_pointed, is_beyond}
use Rattle.placement.proofs.child.add_farther.Given as goal

abbrev pub invariant-loop-each : goal.invariant-loop-each
invariant-loop-each l = l.found.items ≡ l.initial.found.items ++ flat_map (lifts_pointed l.map (is_beyond l.direction l.middle)) (take l.each-index l.pointed)
