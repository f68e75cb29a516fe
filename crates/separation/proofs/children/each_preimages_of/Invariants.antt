use Rattle.std.proofs.Common.{◌≡◌, take}
use Rattle.coord_maps.specs.Stretches.{each_preimages_of}
use Rattle.separation.proofs.children.each_preimages_of.Given as goal

abbrev pub invariant-loop-patterns : goal.invariant-loop-patterns
invariant-loop-patterns l = l.found.items ≡ each_preimages_of l.map (take l.patterns-index l.lists)
