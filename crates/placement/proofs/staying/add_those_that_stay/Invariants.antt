use Rattle.std.proofs.Common.{◌≡◌, ◌++◌, take, filter}
use Rattle.placement.specs.Thinning.{stays, some_leave}
use Rattle.placement.proofs.staying.add_those_that_stay.Given as goal

abbrev pub invariant-loop-pattern : goal.invariant-loop-pattern
invariant-loop-pattern l =
    (l.found.items ≡ l.initial.found.items ++ filter (stays l.barred) (take l.pattern-index l.patterns))
    × (l.left_out ≡ some_leave l.barred (take l.pattern-index l.patterns))
