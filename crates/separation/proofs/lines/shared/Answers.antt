use Rattle.std.proofs.Common.{arith}
use Rattle.std.specs.Prelude.{◌&&◌}
use Rattle.gridded.specs.CellSets.{is_among as has_cell}
use Rattle.separation.proofs.OnLines.{next_place, all_places}
use Rattle.separation.proofs.lines.shared.Goals as goal

pub loop-place-preserved : goal.loop-place-preserved
loop-place-preserved c =
    next_place c.args.axis c.args.line c.loop-place.place (λ d. has_cell c.args.set d && has_cell c.args.other d) c.loop-place.found c.with_wanted-found.result c.cell_on-cell.result c.is_shared.result
    c.cell_on-cell.ensures.value c.is_shared.ensures c.loop-place.invariant c.with_wanted-found.ensures

pub returns : goal.returns
returns c = all_places c.args.axis c.args.line c.loop-place.place (λ d. has_cell c.args.set d && has_cell c.args.other d) c.loop-place.found (omega (arith, c.loop-place-test.false)) c.loop-place.invariant
