use Rattle.std.proofs.Common.{◌∙◌}
use Rattle.std.proofs.lemmas.List.{take_all}
use Rattle.steps.proofs.OnLine.{lists_closed}
use Rattle.steps.proofs.line_step.closed_lists.Goals as goal

pub returns : goal.returns
returns c =
    c.loop-patterns.invariant
    ∙ rw (take_all c.loop-patterns.patterns-index c.args.lists.now c.loop-patterns-test.false) (lists_closed c.args.axis c.args.line c.args.lists.now c.requires)
