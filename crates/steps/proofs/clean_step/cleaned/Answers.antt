use Rattle.std.proofs.Common.{◌≡◌, false, List, ap, arith, get_or, length, subst}
use Rattle.gridded.specs.declared.cell.Cell.{Cell}
use Rattle.gridded.specs.Orders.{cell_eq}
use Rattle.steps.proofs.Removed.{none_removed, no_point}
use Rattle.steps.proofs.clean_step.cleaned.Goals as goal

-- the cells have been gone through, and none was the cell
pub returns : goal.returns
returns c =
    let cells = c.cells-cells.ensures.value in
    let long = ap (λ (l : List Cell). length l) cells in
    let past = c.loop-place-test.false in
    none_removed c.args.cell c.args.g.now (no_point c.args.cell c.args.g.now (λ k l.
    subst (λ (list : List Cell). cell_eq c.args.cell (get_or list k (record { x = 0; y = 0 })) ≡ false) cells (c.loop-place.invariant k (omega arith))))
