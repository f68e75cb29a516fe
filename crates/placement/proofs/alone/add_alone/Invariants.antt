use Rattle.std.proofs.Common.{◌≡◌, ◌++◌}
use Rattle.placement.specs.Placing.{beside_below}
use Rattle.placement.proofs.alone.add_alone.Given as goal

abbrev pub invariant-loop-x : goal.invariant-loop-x
invariant-loop-x l = l.found.items ≡ l.initial.found.items ++ beside_below l.middle l.height l.x
