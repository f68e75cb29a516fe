use Rattle.std.proofs.Common.{[], arith}
use Rattle.std.proofs.lemmas.List.Elements.{All-from_get_or}
use Rattle.gridded.specs.Grids.{IsGridded}
use Rattle.rule_kinds.proofs.reading.read_patterns.Goals as goal

pub returns : goal.returns
returns c = All-from_get_or (λ x. IsGridded x) c.args.patterns.now [] (λ k below. c.loop-pattern.invariant k (omega arith))
