use Rattle.std.proofs.Common.{◌<◌, ℕ, get_or}
use Rattle.tiling_core.specs.Roots.{void_tiling}
use Rattle.tiling_core.specs.Tiles.{IsTiling}
use Rattle.tile_rules.proofs.check.read_tilings.Given as goal

abbrev pub invariant-loop-tiling : goal.invariant-loop-tiling
invariant-loop-tiling l = (k : ℕ) → k < l.tiling-index → IsTiling (get_or l.tilings k void_tiling)
