use Rattle.std.proofs.Common.{◌≡◌, subst, IfOk}
use Rattle.tiling_core.specs.Tiles.{Tiles}
use Rattle.placement.proofs.ChildParts.{IsChild, child_obstructions_fit, child_lists_fit, child_is}
use Rattle.placement.proofs.child.child.Goals as goal

pub in_grid-requires-clause-obstructions_in : goal.in_grid-requires-clause-obstructions_in
in_grid-requires-clause-obstructions_in c =
    let k : IsChild c.args.tiling.now c.args.pointed.now c.args.direction c.args.at.now c.width.result c.height.result c.around-map.result c.pointed_cell-cell.result c.middle-middle.result c.in_ok-obstructions.obstructions.items c.in_ok-lists.lists.items = record {
      width = c.width.ensures.value;
      height = c.height.ensures.value;
      cell = c.pointed_cell-cell.ensures.value;
      map = c.around-map.ensures;
      middle = c.middle-middle.ensures;
      forbidden = c.in_ok-obstructions.ensures;
      required = c.in_ok-lists.ensures;
    } in
    child_obstructions_fit k (c.pointed_cell-cell.ensures.inside c.args.tiling.now.width c.args.tiling.now.height c.requires.at_inside)

pub in_grid-requires-clause-requirements_in : goal.in_grid-requires-clause-requirements_in
in_grid-requires-clause-requirements_in c =
    let k : IsChild c.args.tiling.now c.args.pointed.now c.args.direction c.args.at.now c.width.result c.height.result c.around-map.result c.pointed_cell-cell.result c.middle-middle.result c.in_ok-obstructions.obstructions.items c.in_ok-lists.lists.items = record {
      width = c.width.ensures.value;
      height = c.height.ensures.value;
      cell = c.pointed_cell-cell.ensures.value;
      map = c.around-map.ensures;
      middle = c.middle-middle.ensures;
      forbidden = c.in_ok-obstructions.ensures;
      required = c.in_ok-lists.ensures;
    } in
    child_lists_fit k (c.pointed_cell-cell.ensures.inside c.args.tiling.now.width c.args.tiling.now.height c.requires.at_inside)

pub returns : goal.returns
returns c =
    let k : IsChild c.args.tiling.now c.args.pointed.now c.args.direction c.args.at.now c.width.result c.height.result c.around-map.result c.pointed_cell-cell.result c.middle-middle.result c.in_ok-obstructions.obstructions.items c.in_ok-lists.lists.items = record {
      width = c.width.ensures.value;
      height = c.height.ensures.value;
      cell = c.pointed_cell-cell.ensures.value;
      map = c.around-map.ensures;
      middle = c.middle-middle.ensures;
      forbidden = c.in_ok-obstructions.ensures;
      required = c.in_ok-lists.ensures;
    } in
    subst (λ (whole : Tiles). IfOk c.in_grid.result (λ child. child ≡ whole)) (child_is k) c.in_grid.ensures
