use Rattle.std.proofs.Common.{◌≡◌, ◌≤◌, take, length}
use Rattle.std.specs.Prelude.{flat_map}
use Rattle.placement.specs.Placing.{short_single}
use Rattle.placement.proofs.places.short_singles.Given as goal

abbrev pub invariant-loop-patterns : goal.invariant-loop-patterns
invariant-loop-patterns l = record {
  found : l.found.items ≡ flat_map short_single (take l.patterns-index l.tiling.requirements);
  few : length l.found.items ≤ 16;
}
