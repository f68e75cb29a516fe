use Rattle.std.proofs.Common.{◌≡◌, ◌++◌, take}
use Rattle.std.specs.Prelude.{map}
use Rattle.rule_kinds.specs.Kinds.{cut_kind}
use Rattle.separation.proofs.least.add_kinds.Given as goal

abbrev pub invariant-loop-set : goal.invariant-loop-set
invariant-loop-set l = l.kinds.items ≡ l.initial.kinds.items ++ map (cut_kind l.axis l.line) (take l.set-index l.sets)
