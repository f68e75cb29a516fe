use Rattle.std.proofs.Common.{◌≡◌, ◌++◌, take, filter}
use Rattle.coord_maps.specs.Stretches.{preimages_of}
use Rattle.placement.specs.Thinning.{stays, some_leave}
use Rattle.placement.proofs.staying.add_all_that_stay.Given as goal

abbrev pub invariant-loop-pattern : goal.invariant-loop-pattern
invariant-loop-pattern l =
    (l.found.items ≡ l.initial.found.items ++ filter (stays l.barred) (preimages_of l.map (take l.pattern-index l.patterns)))
    × (l.left_out ≡ some_leave l.barred (preimages_of l.map (take l.pattern-index l.patterns)))
