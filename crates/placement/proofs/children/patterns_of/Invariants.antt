use Rattle.std.proofs.Common.{◌≡◌, take}
use Rattle.rule_kinds.specs.Children.{patterns_pointed}
use Rattle.placement.proofs.children.patterns_of.Given as goal

abbrev pub invariant-loop-each : goal.invariant-loop-each
invariant-loop-each l = l.patterns.items ≡ patterns_pointed (take l.each-index l.pointed)
