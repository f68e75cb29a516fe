use Rattle.steps.specs.Refused.{IsFirstRefused, IsReplayRefused}
use Rattle.tile_rules.proofs.Checked.{no_child}
use Rattle.tile_rules.proofs.check.leads_to.Goals as goal

pub returns-in-Err-NotApplicable : goal.returns-in-Err-NotApplicable
returns-in-Err-NotApplicable c =
    let r : IsReplayRefused c.args.raw c.args.trace.now c.in-Err-NotApplicable.field-0 = c.in-Err-NotApplicable.ensures.refused in
    let k : IsFirstRefused c.args.raw c.args.trace.now c.in-Err-NotApplicable.field-0-0 = rw c.in-Err-NotApplicable.field-0-is at r in
    no_child c.args.raw k.reached c.args.child.now c.args.trace.now c.in-Err-NotApplicable.field-0-0 k.within k.before k.refused
