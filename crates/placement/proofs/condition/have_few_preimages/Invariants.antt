use Rattle.std.proofs.Common.{◌≡◌, true, take, nat_le}
use Rattle.std.specs.List.{list_all}
use Rattle.rule_kinds.specs.Kinds.{pointed_cell}
use Rattle.rule_kinds.specs.Children.{around}
use Rattle.rule_kinds.specs.Conditions.{preimage_sum, most_preimages}
use Rattle.placement.proofs.condition.have_few_preimages.Given as goal

abbrev pub invariant-loop-each : goal.invariant-loop-each
invariant-loop-each l = list_all (λ q. nat_le (preimage_sum (around l.tiling (pointed_cell q)) l.tiling) most_preimages) (take l.each-index l.pointed) ≡ true
