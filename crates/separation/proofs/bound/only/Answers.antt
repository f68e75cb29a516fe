use Rattle.std.proofs.Common.{◌∙◌, ap, sym, subst}
use Rattle.gridded.specs.CellSets.{with_cell}
use Rattle.separation.specs.OnLines.{IsOfLine}
use Rattle.separation.proofs.OnLines.{one_cell, one_of_line}
use Rattle.separation.proofs.bound.only.Goals as goal

pub returns-clause-value : goal.returns-clause-value
returns-clause-value c = c.with.ensures.value ∙ ap (λ s. with_cell s c.args.cell) c.none.ensures ∙ one_cell c.args.axis c.args.cell (c.requires.left, c.requires.low)

pub returns-clause-of_line : goal.returns-clause-of_line
returns-clause-of_line c =
    subst (λ s. IsOfLine c.args.axis c.args.line s) (sym (c.with.ensures.value ∙ ap (λ s. with_cell s c.args.cell) c.none.ensures ∙ one_cell c.args.axis c.args.cell (c.requires.left, c.requires.low)))
    (one_of_line c.args.axis c.args.line c.args.cell (c.requires.left, c.requires.low) c.requires.on_line)
