use Rattle.work_packs.proofs.RuleSteps.{one_more_reduced}
use Rattle.work_packs.proofs.filed.all_reduced.Goals as goal

pub loop-tiling-preserved : goal.loop-tiling-preserved
loop-tiling-preserved c =
    rw (c.in_ok-push.ensures.items, c.in_ok-push-2.ensures.items)
    (one_more_reduced c.loop-tiling.yielded c.loop-tiling.children.items c.loop-tiling.traces.items c.in-Some.tiling c.in_ok-child.child c.in_ok-child.steps c.loop-tiling.invariant c.in_ok-child.ensures)
