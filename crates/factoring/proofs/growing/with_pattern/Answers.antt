use Rattle.std.proofs.Common.{List, ap, ◌∙◌}
use Rattle.std.specs.Prelude.{◌||◌}
use Rattle.std.specs.List.{list_any}
use Rattle.gridded.specs.declared.cell.Cell.{Cell}
use Rattle.gridded.specs.Grids.{corner}
use Rattle.normal_form.proofs.UsedLines.{cell_fits, one_more_cell, grows, whole, none_yet}
use Rattle.factoring.proofs.growing.with_pattern.Goals as goal

pub with-larger-requires-clause-left : goal.with-larger-requires-clause-left
with-larger-requires-clause-left c = rw c.cells-own.ensures.value (cell_fits c.args.g.now c.loop-place.place corner c.requires (rw c.cells-own.ensures.value at c.loop-place-test.true)).0

pub with-larger-requires-clause-low : goal.with-larger-requires-clause-low
with-larger-requires-clause-low c = rw c.cells-own.ensures.value (cell_fits c.args.g.now c.loop-place.place corner c.requires (rw c.cells-own.ensures.value at c.loop-place-test.true)).1

pub loop-place-init : goal.loop-place-init
loop-place-init c = λ test. none_yet test c.cells-own.result.now (list_any test c.args.cells)

pub loop-place-preserved : goal.loop-place-preserved
loop-place-preserved c = λ test.
    grows test c.cells-own.result.now c.loop-place.place corner (list_any test c.args.cells) (list_any test c.loop-place.larger) (list_any test c.with-larger.result) c.loop-place-test.true (c.loop-place.invariant test)
    (one_more_cell test c.loop-place.larger c.with-larger.result _ c.with-larger.ensures.cells)

pub returns : goal.returns
returns c = λ test.
    whole test c.cells-own.result.now c.loop-place.place (list_any test c.args.cells) (list_any test c.loop-place.larger) c.loop-place-test.false (c.loop-place.invariant test)
    ∙ ap (λ (cells : List Cell). list_any test c.args.cells || list_any test cells) c.cells-own.ensures.value
