use Rattle.std.specs.Prelude.{◌&&◌}
use Rattle.gridded.specs.CellSets.{is_among as has_cell}
use Rattle.separation.proofs.OnLines.{active_line, of_line_that}
use Rattle.separation.proofs.lines.active_on.Goals as goal

pub returns-clause-value : goal.returns-clause-value
returns-clause-value c = active_line c.args.axis c.args.line c.args.tiling.now c.args.active c.shared.result c.read.ensures c.requires.active c.shared.ensures

pub returns-clause-of_line : goal.returns-clause-of_line
returns-clause-of_line c = of_line_that c.args.axis c.args.line (λ d. has_cell c.args.active d && has_cell c.args.active d) c.shared.result c.shared.ensures
