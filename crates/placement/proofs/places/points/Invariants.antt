use Rattle.std.proofs.Common.{◌≡◌, take}
use Rattle.std.specs.Prelude.{flat_map}
use Rattle.placement.specs.Placing.{kinds_in_all, places_of}
use Rattle.placement.proofs.places.points.Given as goal

abbrev pub invariant-loop-pattern : goal.invariant-loop-pattern
invariant-loop-pattern l = l.kinds.items ≡ kinds_in_all l.tiling (flat_map places_of (take l.pattern-index l.pattern-items))
