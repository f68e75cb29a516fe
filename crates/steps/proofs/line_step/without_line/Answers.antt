use Rattle.steps.proofs.OnLine.{obstructions_closed_in, lists_closed_in}
use Rattle.steps.proofs.line_step.without_line.Goals as goal

pub in_grid-requires-clause-obstructions_in : goal.in_grid-requires-clause-obstructions_in
in_grid-requires-clause-obstructions_in c =
    rw (c.in_ok-obstructions.ensures, c.obstructions.ensures.value, c.with_line-left.ensures, c.line.ensures, c.sides-old.ensures.value)
    (obstructions_closed_in c.args.axis c.args.line c.args.tiling.now c.sides-old.ensures.kept c.requires)

pub in_grid-requires-clause-requirements_in : goal.in_grid-requires-clause-requirements_in
in_grid-requires-clause-requirements_in c =
    rw (c.in_ok-lists.ensures, c.requirements.ensures.value, c.with_line-left.ensures, c.line.ensures, c.sides-old.ensures.value)
    (lists_closed_in c.args.axis c.args.line c.args.tiling.now c.sides-old.ensures.kept c.requires)
