use Rattle.std.proofs.Common.{◌≡◌, ◌<◌, ◌≤◌, ℕ, Bool, true, false, ap, sym, subst, ◌∙◌, refl, arith}
use Rattle.std.specs.Prelude.{◌&&◌, not}
use borrow.Author.Count.{below_more}
use Rattle.gridded.specs.declared.axis.Axis.{Axis}
use Rattle.gridded.specs.declared.cell.Cell.{Cell}
use Rattle.gridded.specs.Axes.{line_of, cell_on}
use Rattle.gridded.specs.Orders.{cell_eq}
use Rattle.tiling_core.specs.Tiles.{Tiles}
use Rattle.tiling_core.specs.Patterns.{forbids}
use Rattle.gridded.specs.Small.{point_at}
use Rattle.steps.specs.Steps.{sides}
use Rattle.steps.proofs.Alone.{is_open_at, none_open, one_open, none_outside}
use Rattle.steps.proofs.clean_step.is_alone_on.Goals as goal

-- the answer at a place of the line
answer : (a : Axis) (cell other : Cell) (t : Tiles) (line place : ℕ) (b r : Bool) → line ≡ line_of a cell → other ≡ cell_on a line place → r ≡ (not (cell_eq other cell) && not (forbids t (point_at other))) → r ≡ b → is_open_at a cell t place ≡ b
answer a cell other t line place b r l o e f =
    let at : other ≡ cell_on a (line_of a cell) place = o ∙ ap (λ i. cell_on a i place) l in
    subst (λ (d : Cell). (not (cell_eq d cell) && not (forbids t (point_at d))) ≡ b) at (sym e ∙ f)

pub loop-place-preserved : goal.loop-place-preserved
loop-place-preserved c =
    below_more (λ k. is_open_at c.args.axis c.args.cell c.args.tiling.now k ≡ false) c.loop-place.place c.loop-place.invariant
    (answer c.args.axis c.args.cell c.cell_on.result c.args.tiling.now c.line-line.result c.loop-place.place false c.is_open.result c.line-line.ensures c.cell_on.ensures c.is_open.ensures c.if-is_open.false)

pub returns-then-line : goal.returns-then-line
returns-then-line c =
    let past : line_of c.args.axis (sides c.args.tiling.now) ≤ line_of c.args.axis c.args.cell = rw (← c.sides.ensures.value, ← c.line.ensures, ← c.line-line.ensures) c.if-line.true in
    rw (none_outside c.args.axis c.args.cell c.args.tiling.now past) refl

pub returns-then-is_open : goal.returns-then-is_open
returns-then-is_open c =
    let low : line_of c.args.axis c.args.cell < line_of c.args.axis (sides c.args.tiling.now) = rw (← c.sides.ensures.value, ← c.line.ensures, ← c.line-line.ensures) c.if-line.false in
    let here = rw c.cells_across-place-end.ensures.value at c.loop-place-test.true in
    rw (one_open c.args.axis c.args.cell c.args.tiling.now c.loop-place.place low here
    (answer c.args.axis c.args.cell c.cell_on.result c.args.tiling.now c.line-line.result c.loop-place.place true c.is_open.result c.line-line.ensures c.cell_on.ensures c.is_open.ensures c.if-is_open.true)) refl

pub returns : goal.returns
returns c =
    let across = c.cells_across-place-end.ensures.value in
    let past = c.loop-place-test.false in
    rw (none_open c.args.axis c.args.cell c.args.tiling.now (λ k l. c.loop-place.invariant k (omega arith))) refl
