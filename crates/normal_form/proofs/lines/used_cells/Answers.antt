use Rattle.tiling_core.proofs.GridCells.{in_wider_grid}
use Rattle.normal_form.proofs.UsedLines.{lists_in_eight, used_is}
use Rattle.normal_form.proofs.lines.used_cells.Goals as goal

pub with_longer-longer-requires : goal.with_longer-longer-requires
with_longer-longer-requires c =
    let t = c.args.tiling.now in
    let kept = c.obstructions.ensures.kept in
    rw c.obstructions.ensures.value (in_wider_grid t.width t.height t.obstructions kept.narrow kept.low kept.obstructions_in)

pub with_lists-requires : goal.with_lists-requires
with_lists-requires c =
    let t = c.args.tiling.now in
    let kept = c.obstructions.ensures.kept in
    rw c.requirements.ensures.value (lists_in_eight t.width t.height t.requirements kept.narrow kept.low kept.requirements_in)

pub returns : goal.returns
returns c = λ test.
    used_is test c.args.tiling.now _ _ _ _ _ c.active.ensures.value c.obstructions.ensures.value c.requirements.ensures.value (c.with_longer-longer.ensures test) (c.with_lists.ensures test)
