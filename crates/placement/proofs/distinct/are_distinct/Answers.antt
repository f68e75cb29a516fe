use Rattle.placement.proofs.Lined.{repeated, not_repeated}
use Rattle.placement.proofs.distinct.are_distinct.Goals as goal

pub returns-then-some_points_into : goal.returns-then-some_points_into
returns-then-some_points_into c =
    repeated c.args.pointed.now c.loop-place.place c.index-pointed-place.result c.pointed_cell.result c.some_points_into.result c.loop-place-test.true c.index-pointed-place.is c.pointed_cell.ensures.value c.loop-place.invariant c.some_points_into.ensures c.if-some_points_into.true

pub loop-place-preserved : goal.loop-place-preserved
loop-place-preserved c =
    not_repeated c.args.pointed.now c.loop-place.place c.index-pointed-place.result c.pointed_cell.result c.some_points_into.result c.loop-place-test.true c.index-pointed-place.is c.pointed_cell.ensures.value c.loop-place.invariant c.some_points_into.ensures c.if-some_points_into.false
