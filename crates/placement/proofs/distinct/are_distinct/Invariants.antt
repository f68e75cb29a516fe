use Rattle.std.proofs.Common.{◌≡◌, map, drop}
use Rattle.rule_kinds.specs.Kinds.{pointed_cell}
use Rattle.rule_kinds.specs.Conditions.{all_distinct}
use Rattle.placement.proofs.distinct.are_distinct.Given as goal

abbrev pub invariant-loop-place : goal.invariant-loop-place
invariant-loop-place l = all_distinct (map pointed_cell (drop l.place l.pointed)) ≡ all_distinct (map pointed_cell l.pointed)
