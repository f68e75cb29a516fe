use Rattle.std.proofs.Common.{◌≡◌, ◌++◌, take}
use Rattle.std.specs.Prelude.{filter}
use Rattle.rule_kinds.specs.Kinds.{point_of}
use Rattle.placement.specs.Placing.{is_sought}
use Rattle.placement.proofs.lifting.add_lifted.Given as goal

abbrev pub invariant-loop-pattern : goal.invariant-loop-pattern
invariant-loop-pattern l = l.found.items ≡ l.initial.found.items ++ filter (λ g. is_sought l.sought l.middle (point_of g l.pointed.index).cell) (take l.pattern-index l.pattern-items)
