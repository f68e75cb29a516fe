use Rattle.placement.proofs.Tried.{both_added, none_added}
use Rattle.placement.proofs.listing.add_both.Goals as goal

pub returns-in_ok-push-2 : goal.returns-in_ok-push-2
returns-in_ok-push-2 c =
    both_added c.args.tiling.now c.args.pointed.now c.args.first c.args.second c.axis_of.result c.can_place_along.result c.args.kinds.now.items c.push.new.self.items c.push-then-can_place_along.new.self.items c.in_ok-placement.field-0 c.in_ok-placement-2.field-0
    c.axis_of.ensures c.requires c.can_place_along.ensures c.if-can_place_along.true c.in_ok-push.ensures.items c.in_ok-placement.ensures c.in_ok-push-2.ensures.items c.in_ok-placement-2.ensures

pub returns-else-can_place_along : goal.returns-else-can_place_along
returns-else-can_place_along c = none_added c.args.tiling.now c.args.pointed.now c.args.first c.args.second c.axis_of.result c.can_place_along.result c.args.kinds.now.items c.axis_of.ensures c.requires c.can_place_along.ensures c.if-can_place_along.false
