use Rattle.std.proofs.Common.{◌≡◌, ◌++◌}
use Rattle.placement.specs.Placing.{beside_in}
use Rattle.placement.proofs.alone.add_beside_in.Given as goal

abbrev pub invariant-loop-y : goal.invariant-loop-y
invariant-loop-y l = l.found.items ≡ l.initial.found.items ++ beside_in l.middle l.x l.y
