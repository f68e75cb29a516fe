use Rattle.std.proofs.Common.{arith}
use Rattle.std.specs.Prelude.{◌&&◌, ◌||◌}
use Rattle.std.specs.List.{list_any}
use Rattle.gridded.specs.CellSets.{is_among as has_cell}
use Rattle.gridded.specs.Orders.{cell_eq}
use Rattle.rule_kinds.specs.Choices.{is_bound}
use Rattle.separation.proofs.OnLines.{next_place, all_places, of_line_that}
use Rattle.separation.proofs.Reaching.{grown_is}
use Rattle.separation.proofs.bound.grown.Goals as goal

pub loop-place-preserved : goal.loop-place-preserved
loop-place-preserved c =
    next_place c.args.axis c.args.line c.loop-place.place (λ d. has_cell c.args.whole d && list_any (λ e. cell_eq e d || is_bound c.args.axis c.args.tiling.now e d) c.args.set) c.loop-place.larger c.with_wanted-larger.result c.cell_on-cell.result c.is_linked-wanted.result
    c.cell_on-cell.ensures.value c.is_linked-wanted.ensures c.loop-place.invariant c.with_wanted-larger.ensures

pub returns-clause-value : goal.returns-clause-value
returns-clause-value c =
    grown_is c.args.axis c.args.line (is_bound c.args.axis c.args.tiling.now) c.args.whole c.args.set c.loop-place.larger c.requires.whole_of_line
    (all_places c.args.axis c.args.line c.loop-place.place (λ d. has_cell c.args.whole d && list_any (λ e. cell_eq e d || is_bound c.args.axis c.args.tiling.now e d) c.args.set) c.loop-place.larger (omega (arith, c.loop-place-test.false)) c.loop-place.invariant)

pub returns-clause-of_line : goal.returns-clause-of_line
returns-clause-of_line c =
    of_line_that c.args.axis c.args.line (λ d. has_cell c.args.whole d && list_any (λ e. cell_eq e d || is_bound c.args.axis c.args.tiling.now e d) c.args.set) c.loop-place.larger
    (all_places c.args.axis c.args.line c.loop-place.place (λ d. has_cell c.args.whole d && list_any (λ e. cell_eq e d || is_bound c.args.axis c.args.tiling.now e d) c.args.set) c.loop-place.larger (omega (arith, c.loop-place-test.false)) c.loop-place.invariant)
