use Rattle.std.proofs.Common.{◌≡◌, ◌∙◌, ◌/◌, ◌%◌, refl, arith}
use Rattle.tiling_core.specs.Patterns.{is_free}
use Rattle.tiling_core.proofs.GridCells.{in_wider_grid, is_set_from, one_more_number, active_from_numbers, active_cells_are_active}
use Rattle.tiling_core.proofs.active_cells.active.Goals as goal

pub point_cells-forbidden-requires : goal.point_cells-forbidden-requires
point_cells-forbidden-requires c =
    let kept = c.obstructions.ensures.kept in
    rw c.obstructions.ensures.value (in_wider_grid c.args.tiling.now.width c.args.tiling.now.height c.args.tiling.now.obstructions kept.narrow kept.low kept.obstructions_in)

pub with_wanted-active-requires-clause-is_set : goal.with_wanted-active-requires-clause-is_set
with_wanted-active-requires-clause-is_set c = is_set_from _ c.loop-number.active c.loop-number.invariant

pub loop-number-preserved : goal.loop-number-preserved
loop-number-preserved c =
    let t = c.args.tiling.now in
    c.with_wanted-active.ensures
    ∙ one_more_number (is_free t.width t.height c.point_cells-forbidden.result) c.loop-number.number c.loop-number.active (record { x = c.loop-number.number / 8; y = c.loop-number.number % 8 }) c.is_free.result refl refl c.is_free.ensures c.loop-number.invariant

pub returns : goal.returns
returns c =
    let t = c.args.tiling.now in
    let kept = c.obstructions.ensures.kept in
    let last : c.loop-number.number ≡ 64 = omega arith in
    let value = active_from_numbers t c.point_cells-forbidden.result c.loop-number.active c.loop-number.number last kept.narrow kept.low (rw c.obstructions.ensures.value at c.point_cells-forbidden.ensures) c.loop-number.invariant in
    record { value = value; meaning = λ x. rw value (active_cells_are_active t x) }
