use Rattle.tiling_core.proofs.GridCells.{in_wider_grid}
use Rattle.normal_form.proofs.UsedLines.{lists_in_eight}
use Rattle.factoring.proofs.Bundles.{all_tied}
use Rattle.factoring.proofs.growing.tied_cells.Goals as goal

pub with_obstructions-alone-requires : goal.with_obstructions-alone-requires
with_obstructions-alone-requires c =
    let t = c.args.tiling.now in
    let kept = c.obstructions.ensures.kept in
    rw c.obstructions.ensures.value (in_wider_grid t.width t.height t.obstructions kept.narrow kept.low kept.obstructions_in)

pub with_lists-requires : goal.with_lists-requires
with_lists-requires c =
    let t = c.args.tiling.now in
    let kept = c.obstructions.ensures.kept in
    rw c.requirements.ensures.value (lists_in_eight t.width t.height t.requirements kept.narrow kept.low kept.requirements_in)

pub returns : goal.returns
returns c = λ test.
    all_tied c.args.set test c.args.tiling.now _ _ _ _ _ c.none.ensures c.obstructions.ensures.value c.requirements.ensures.value (c.with_obstructions-alone.ensures test) (c.with_lists.ensures test)
