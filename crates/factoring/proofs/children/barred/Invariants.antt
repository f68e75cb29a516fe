use Rattle.std.proofs.Common.{◌≡◌}
use Rattle.factoring.proofs.Barred.{barred_below}
use Rattle.factoring.proofs.children.barred.Given as goal

abbrev pub invariant-loop-x : goal.invariant-loop-x
invariant-loop-x l = l.points.items ≡ barred_below l.set l.tiling.height l.x
