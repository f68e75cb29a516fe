use Rattle.std.proofs.Common.{[], arith}
use Rattle.std.proofs.lemmas.List.Elements.{All-from_get_or}
use Rattle.gridded.specs.CellSets.{IsCellSet}
use Rattle.factoring.proofs.sharing.read_sets.Goals as goal

pub returns : goal.returns
returns c = All-from_get_or (λ x. IsCellSet x) c.args.sets.now [] (λ k below. c.loop-set.invariant k (omega arith))
