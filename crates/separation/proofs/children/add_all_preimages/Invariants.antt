use Rattle.std.proofs.Common.{◌≡◌, ◌++◌, take}
use Rattle.coord_maps.specs.Stretches.{preimages_of}
use Rattle.separation.proofs.children.add_all_preimages.Given as goal

abbrev pub invariant-loop-pattern : goal.invariant-loop-pattern
invariant-loop-pattern l = l.found.items ≡ l.initial.found.items ++ preimages_of l.map (take l.pattern-index l.patterns)
