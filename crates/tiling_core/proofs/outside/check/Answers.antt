use Rattle.std.proofs.Common.{arith, []}
use Rattle.std.proofs.lemmas.List.Elements.{All-from_get_or}
use Rattle.tiling_core.specs.Tiles.{IsInGrid}
use Rattle.tiling_core.proofs.outside.check.Goals as goal

pub returns-clause-accepted : goal.returns-clause-accepted
returns-clause-accepted c = record {
  grid = record { narrow = omega arith; low = omega arith };
  obstructions_in = c.in_default.ensures;
  requirements_in = All-from_get_or (λ patterns. IsInGrid c.args.width c.args.height patterns) c.args.lists.now [] (λ k below. c.loop-place.invariant k (omega arith));
}
