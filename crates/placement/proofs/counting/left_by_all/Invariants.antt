use Rattle.std.proofs.Common.{◌≡◌, ◌+◌, take}
use Rattle.rule_kinds.specs.Conditions.{preimages_in, all_of}
use Rattle.placement.proofs.counting.left_by_all.Given as goal

abbrev pub invariant-loop-patterns : goal.invariant-loop-patterns
invariant-loop-patterns l = l.left + preimages_in l.map (all_of (take l.patterns-index l.lists)) ≡ l.most
