use Rattle.std.proofs.Common.{◌<◌, ℕ, [], get_or}
use Rattle.tiling_core.specs.Tiles.{AreGridded}
use Rattle.tiling_core.proofs.made.read_lists.Given as goal

abbrev pub invariant-loop-patterns : goal.invariant-loop-patterns
invariant-loop-patterns l = (k : ℕ) → k < l.patterns-index → AreGridded (get_or l.lists k [])
