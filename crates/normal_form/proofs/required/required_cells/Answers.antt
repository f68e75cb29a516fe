use Rattle.std.proofs.Common.{◌∙◌, List, ap, arith}
use Rattle.std.specs.List.{list_any}
use Rattle.std.proofs.lemmas.List.{take_all}
use Rattle.gridded.specs.Grids.{Point}
use Rattle.gridded.specs.CellSets.{cells_that}
use Rattle.tiling_core.proofs.GridCells.{is_set_from}
use Rattle.normal_form.proofs.RequiredCells.{is_alone_in, lists_in_wider_grid, one_more_list}
use Rattle.normal_form.proofs.required.required_cells.Goals as goal

pub with_list-cells-requires-clause-inside : goal.with_list-cells-requires-clause-inside
with_list-cells-requires-clause-inside c =
    let t = c.args.tiling.now in
    let kept = c.requirements-patterns-items.ensures.kept in
    rw c.as_slice.ensures (lists_in_wider_grid t.width t.height c.requirements-patterns-items.result.now c.loop-patterns.patterns-index c.patterns-item.result kept.narrow kept.low (rw c.requirements-patterns-items.ensures.value kept.requirements_in) (omega arith) c.patterns-item.is)

pub with_list-cells-requires-clause-is_set : goal.with_list-cells-requires-clause-is_set
with_list-cells-requires-clause-is_set c = is_set_from _ c.loop-patterns.cells c.loop-patterns.invariant

pub loop-patterns-preserved : goal.loop-patterns-preserved
loop-patterns-preserved c =
    let t = c.args.tiling.now in
    let value = c.requirements-patterns-items.ensures.value in
    rw c.as_slice.ensures at c.with_list-cells.ensures
    ∙ one_more_list t.requirements c.loop-patterns.patterns-index c.patterns-item.result c.loop-patterns.cells (rw value at c.loop-patterns-test.true) (rw value at c.patterns-item.is) c.loop-patterns.invariant

pub returns : goal.returns
returns c =
    let t = c.args.tiling.now in
    c.loop-patterns.invariant ∙ ap (λ (lists : List (List (List Point))). cells_that (λ x. list_any (is_alone_in x) lists)) (take_all c.loop-patterns.patterns-index t.requirements (rw c.requirements-patterns-items.ensures.value at c.loop-patterns-test.false))
