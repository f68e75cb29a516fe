use Rattle.std.proofs.Common.{◌≡◌, ◌+◌, take}
use Rattle.rule_kinds.specs.Conditions.{preimages_in}
use Rattle.separation.proofs.room.room_after.Given as goal

abbrev pub invariant-loop-pattern : goal.invariant-loop-pattern
invariant-loop-pattern l = l.left + preimages_in l.map (take l.pattern-index l.patterns) ≡ l.fn.room
