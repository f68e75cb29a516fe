use Rattle.std.proofs.Common.{List, ap, sym, ◌∙◌}
use Rattle.gridded.specs.declared.cell.Cell.{Cell}
use Rattle.gridded.specs.CellSets.{is_among}
use Rattle.gridded.proofs.CellSets.{in_set}
use Rattle.tiling_core.specs.Patterns.{active_cells}
use Rattle.factoring.proofs.finest.add_closure.Goals as goal

pub closure-requires-clause-there : goal.closure-requires-clause-there
closure-requires-clause-there c =
    in_set (active_cells c.args.tiling.now) c.args.cell (ap (λ (cells : List Cell). is_among cells c.args.cell) (sym c.requires) ∙ sym c.contains.ensures ∙ c.if-contains.true)
