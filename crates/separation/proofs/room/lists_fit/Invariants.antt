use Rattle.std.proofs.Common.{◌≡◌, ◌+◌, take}
use Rattle.std.specs.Prelude.{sum_by}
use Rattle.rule_kinds.specs.Conditions.{preimages_in}
use Rattle.separation.proofs.room.lists_fit.Given as goal

abbrev pub invariant-loop-patterns : goal.invariant-loop-patterns
invariant-loop-patterns l = l.left + sum_by (λ patterns. preimages_in l.map patterns) (take l.patterns-index l.lists) ≡ l.fn.room
