use Rattle.std.proofs.Common.{◌≡◌, ◌++◌}
use Rattle.factoring.specs.Outside.{barred_in}
use Rattle.factoring.proofs.children.add_column.Given as goal

abbrev pub invariant-loop-y : goal.invariant-loop-y
invariant-loop-y l = l.points.items ≡ l.initial.points.items ++ barred_in l.set l.x l.y
