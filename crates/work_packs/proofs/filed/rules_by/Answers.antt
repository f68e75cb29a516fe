use Rattle.work_packs.proofs.RuleSteps.{one_more_rule}
use Rattle.work_packs.proofs.filed.rules_by.Goals as goal

pub loop-kind-preserved : goal.loop-kind-preserved
loop-kind-preserved c =
    rw c.in_ok-push.ensures.items
    (one_more_rule c.args.tiling.now c.loop-kind.yielded c.loop-kind.rules.items c.in-Some.kind c.in_ok-rule_by.field-0 c.loop-kind.invariant c.in_ok-rule_by.ensures)
