use Rattle.std.proofs.Common.{◌∙◌}
use Rattle.steps.proofs.Shorter.{held_among_shorter}
use Rattle.steps.proofs.min_step.holds_shorter.Goals as goal

pub returns : goal.returns
returns c =
    c.holds_before.ensures.value ∙ held_among_shorter c.args.g.now c.args.patterns.now c.holds_before.ensures.kept c.requires.gridded c.requires.ascending
