use Rattle.std.proofs.Common.{arith}
use Rattle.std.proofs.lemmas.List.Elements.{All-from_get_or}
use Rattle.rule_kinds.specs.Kinds.{IsPointed}
use Rattle.rule_kinds.specs.Pointeds.{nothing_pointed}
use Rattle.rule_kinds.proofs.reading.read_all_pointed.Goals as goal

pub returns : goal.returns
returns c = All-from_get_or (λ x. IsPointed x) c.args.all.now nothing_pointed (λ k below. c.loop-pointed.invariant k (omega arith))
