use Rattle.std.proofs.Common.{arith, ◌∙◌}
use Rattle.std.proofs.lemmas.List.{length-set}
use Rattle.steps.specs.Steps.{close_cell}
use Rattle.steps.proofs.OnLine.{moved_step, all_moved, cells_short, closed_together, closed_points}
use Rattle.steps.proofs.line_step.close_up.Goals as goal

pub loop-place-preserved : goal.loop-place-preserved
loop-place-preserved c =
    let short = cells_short c.args.g.now c.cells-old.result.now c.cells-old.ensures.value c.cells-old.ensures.short in
    let long = c.loop-place.invariant.long in
    let test = c.loop-place-test.true in
    record {
      long = length-set c.loop-place.cells c.loop-place.place c.close_cell.result ∙ long;
      made = rw c.close_cell.ensures (moved_step (close_cell c.args.axis c.args.line) c.cells-old.result.now c.loop-place.cells c.loop-place.place (record { x = 0; y = 0 }) (omega arith) test c.loop-place.invariant.made);
    }

pub from_consistent-requires : goal.from_consistent-requires
from_consistent-requires c =
    rw (all_moved (close_cell c.args.axis c.args.line) c.cells-old.result.now c.loop-place.cells c.loop-place.place c.loop-place-test.false c.loop-place.auto.place-end c.loop-place.invariant.made, c.letters-letters.ensures.value, c.cells-old.ensures.value)
    (closed_together c.args.axis c.args.line c.args.g.now c.cells-old.ensures.gridded c.requires)

pub returns : goal.returns
returns c =
    c.from_consistent.ensures
    ∙ rw (all_moved (close_cell c.args.axis c.args.line) c.cells-old.result.now c.loop-place.cells c.loop-place.place c.loop-place-test.false c.loop-place.auto.place-end c.loop-place.invariant.made, c.letters-letters.ensures.value, c.cells-old.ensures.value)
    (closed_points c.args.axis c.args.line c.args.g.now)
