use Rattle.std.proofs.Common.{◌∙◌, ap, arith}
use Rattle.gridded.specs.declared.cell.Cell.{Cell}
use Rattle.factoring.specs.Tied.{is_next}
use Rattle.tiling_core.proofs.GridCells.{is_set_from, one_more_number}
use Rattle.factoring.proofs.Linked.{grown_is, all_numbers, none_numbered}
use Rattle.factoring.proofs.growing.grown.Goals as goal

pub with_wanted-larger-requires-clause-is_set : goal.with_wanted-larger-requires-clause-is_set
with_wanted-larger-requires-clause-is_set c = is_set_from _ c.loop-number.larger c.loop-number.invariant

pub loop-number-init : goal.loop-number-init
loop-number-init c = c.none-larger.ensures ∙ none_numbered (is_next c.args.active c.tied_cells-tied.result c.args.set)

pub loop-number-preserved : goal.loop-number-preserved
loop-number-preserved c =
    c.with_wanted-larger.ensures
    ∙ one_more_number (is_next c.args.active c.tied_cells-tied.result c.args.set) c.loop-number.number c.loop-number.larger c.cell_of-cell.result c.is_next.result (ap (λ (d : Cell). d.x) c.cell_of-cell.ensures) (ap (λ (d : Cell). d.y) c.cell_of-cell.ensures) c.is_next.ensures c.loop-number.invariant

pub returns : goal.returns
returns c =
    all_numbers (is_next c.args.active c.tied_cells-tied.result c.args.set) c.loop-number.number c.loop-number.larger (omega arith) c.loop-number.invariant
    ∙ grown_is c.args.tiling.now c.args.set c.tied_cells-tied.result c.tied_cells-tied.ensures c.args.active c.requires c.count.ensures.set
