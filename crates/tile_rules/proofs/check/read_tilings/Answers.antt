use Rattle.std.proofs.Common.{arith}
use Rattle.std.proofs.lemmas.List.Elements.{All-from_get_or}
use Rattle.tiling_core.specs.Roots.{void_tiling}
use Rattle.tiling_core.specs.Tiles.{IsTiling}
use Rattle.tile_rules.proofs.check.read_tilings.Goals as goal

pub returns : goal.returns
returns c = All-from_get_or (λ x. IsTiling x) c.args.tilings.now void_tiling (λ k below. c.loop-tiling.invariant k (omega arith))
