use Rattle.std.proofs.Common.{◌<◌, ℕ, get_or}
use Rattle.rule_kinds.specs.Kinds.{IsPointed}
use Rattle.rule_kinds.specs.Pointeds.{nothing_pointed}
use Rattle.rule_kinds.proofs.reading.read_all_pointed.Given as goal

abbrev pub invariant-loop-pointed : goal.invariant-loop-pointed
invariant-loop-pointed l = (k : ℕ) → k < l.pointed-index → IsPointed (get_or l.all k nothing_pointed)
