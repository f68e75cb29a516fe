use Rattle.std.proofs.Common.{arith, []}
use Rattle.std.proofs.lemmas.List.Elements.{All-from_get_or}
use Rattle.tiling_core.specs.Tiles.{AreGridded}
use Rattle.tiling_core.proofs.made.read_lists.Goals as goal

pub returns : goal.returns
returns c = All-from_get_or (λ patterns. AreGridded patterns) c.args.lists.now [] (λ k below. c.loop-patterns.invariant k (omega arith))
