-- Child by child.
use Rattle.std.proofs.Common.{arith}
use Rattle.css_prune.proofs.Children.{child_number}
use Rattle.css_prune.proofs.Placed.{one_child_more}
use Rattle.css_prune.proofs.order.add_children.Goals as goal

pub add_child-requires-clause-below : goal.add_child-requires-clause-below
add_child-requires-clause-below c =
    let e = child_number c.args.children.now c.loop-child.child-index in
    omega (arith, e, c.requires.below c.loop-child.child-index c.loop-child-test.true, c.loop-child.invariant.as_many)

pub loop-child-preserved : goal.loop-child-preserved
loop-child-preserved c =
    let e = c.in_ok-add_child.ensures in
    record {
      as_many = omega (arith, c.add_child.auto.places, c.loop-child.invariant.as_many);
      order = one_child_more c.args.order.now.items c.loop-child.order.items c.add_child.new.order.items c.args.children.now c.loop-child.child-index c.loop-child-test.true c.loop-child.invariant.order e.order;
      places = e.places;
    }
