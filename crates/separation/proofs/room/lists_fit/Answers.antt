use Rattle.std.proofs.Common.{ap}
use Rattle.rule_kinds.specs.Conditions.{preimages_in}
use Rattle.separation.proofs.Fitting.{none_left, one_too_many, all_fit, lists_too_many, lists_enough}
use Rattle.separation.proofs.room.lists_fit.Goals as goal

pub returns-in-None : goal.returns-in-None
returns-in-None c =
    let m = c.args.map.now in
    lists_too_many m c.args.lists.now c.args.room
    (one_too_many (λ patterns. preimages_in m patterns) c.args.lists.now c.loop-patterns.patterns-index c.patterns-item.result c.args.room c.loop-patterns.left (preimages_in m c.patterns-item.result) c.loop-patterns-test.true c.loop-patterns.invariant (ap (λ patterns. preimages_in m patterns) c.patterns-item.is)
    (rw c.as_slice.ensures at (none_left c.loop-patterns.left (preimages_in m c.as_slice.result.now) c.room_after.result c.room_after.ensures c.in-None.is)))

pub returns : goal.returns
returns c =
    let m = c.args.map.now in
    lists_enough m c.args.lists.now c.args.room c.loop-patterns.left
    (all_fit (λ patterns. preimages_in m patterns) c.args.lists.now c.loop-patterns.patterns-index c.args.room c.loop-patterns.left c.loop-patterns-test.false c.loop-patterns.invariant)
