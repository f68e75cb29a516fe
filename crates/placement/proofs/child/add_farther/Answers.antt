use Rattle.rule_kinds.specs.Children.{lifts_pointed, is_beyond}
use Rattle.placement.proofs.Lifted.{joined_more}
use Rattle.placement.proofs.child.add_farther.Goals as goal

pub loop-each-preserved : goal.loop-each-preserved
loop-each-preserved c =
    joined_more (lifts_pointed c.args.map.now (is_beyond c.args.direction c.args.middle)) c.args.pointed.now c.loop-each.each-index c.each-item.result c.args.found.now.items c.loop-each.found.items c.add_lifted.new.found.items c.loop-each-test.true c.each-item.is c.loop-each.invariant c.in_ok-add_lifted.ensures
