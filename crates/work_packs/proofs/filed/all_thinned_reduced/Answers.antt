use Rattle.work_packs.proofs.RuleSteps.{none_thinned, one_more_thinned}
use Rattle.work_packs.proofs.filed.all_thinned_reduced.Goals as goal

pub loop-tiling-preserved : goal.loop-tiling-preserved
loop-tiling-preserved c =
    rw (c.in_ok-push.ensures.items, c.in_ok-push-2.ensures.items)
    (one_more_thinned c.loop-tiling.yielded c.loop-tiling.children.items c.loop-tiling.traces.items c.in-Some.tiling c.in_ok-child.child c.in-Some.left_out c.in_ok-child.trace c.loop-tiling.invariant c.in_ok-child.ensures)

pub loop-tiling-init : goal.loop-tiling-init
loop-tiling-init c = rw (c.in_ok-children.ensures.items, c.in_ok-traces.ensures.items) none_thinned
