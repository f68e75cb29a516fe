use Rattle.std.proofs.Common.{◌≡◌, ◌+◌, refl, subst, ℕ, List}
use Rattle.gridded.specs.declared.cell.Cell.{Cell}
use Rattle.placement.specs.Thinning.{AreBeside, whole_obstructions}
use Rattle.placement.proofs.ChildParts.{IsChild, child_lists_fit}
use Rattle.placement.proofs.LeftOut.{listed_fit, child_thinned, child_is_tiling}
use Rattle.placement.proofs.thinned.thinned_child.Goals as goal

pub in_grid-requires-clause-obstructions_in : goal.in_grid-requires-clause-obstructions_in
in_grid-requires-clause-obstructions_in c =
    let k : IsChild c.args.tiling.now c.args.pointed.now c.args.direction c.args.at.now c.width-2.result c.height-2.result c.around-map.result c.pointed_cell-cell.result c.middle-middle.result
    (whole_obstructions c.around-map.result c.middle-middle.result c.args.tiling.now c.args.pointed.now c.args.direction) c.in_ok-lists.lists.items = record {
      width = c.width-2.ensures.value;
      height = c.height-2.ensures.value;
      cell = c.pointed_cell-cell.ensures.value;
      map = c.around-map.ensures;
      middle = c.middle-middle.ensures;
      forbidden = refl;
      required = c.in_ok-lists.ensures;
    } in
    listed_fit k c.in_ok-obstructions.ensures (c.pointed_cell-cell.ensures.inside c.args.tiling.now.width c.args.tiling.now.height c.requires.at_inside)

pub in_grid-requires-clause-requirements_in : goal.in_grid-requires-clause-requirements_in
in_grid-requires-clause-requirements_in c =
    let k : IsChild c.args.tiling.now c.args.pointed.now c.args.direction c.args.at.now c.width-2.result c.height-2.result c.around-map.result c.pointed_cell-cell.result c.middle-middle.result
    (whole_obstructions c.around-map.result c.middle-middle.result c.args.tiling.now c.args.pointed.now c.args.direction) c.in_ok-lists.lists.items = record {
      width = c.width-2.ensures.value;
      height = c.height-2.ensures.value;
      cell = c.pointed_cell-cell.ensures.value;
      map = c.around-map.ensures;
      middle = c.middle-middle.ensures;
      forbidden = refl;
      required = c.in_ok-lists.ensures;
    } in
    child_lists_fit k (c.pointed_cell-cell.ensures.inside c.args.tiling.now.width c.args.tiling.now.height c.requires.at_inside)

-- the barred cells lie beside the middle in the child's grid
wide : (w h v k : ℕ) (m : Cell) (set : List Cell) → v ≡ w → k ≡ h → AreBeside (v + 2) (k + 2) m set → AreBeside (w + 2) (h + 2) m set
wide w h v k m set e f are = subst (λ (n : ℕ). AreBeside (w + 2) (n + 2) m set) f (subst (λ (n : ℕ). AreBeside (n + 2) (k + 2) m set) e are)

pub returns-clause-thinned : goal.returns-clause-thinned
returns-clause-thinned c =
    let k : IsChild c.args.tiling.now c.args.pointed.now c.args.direction c.args.at.now c.width-2.result c.height-2.result c.around-map.result c.pointed_cell-cell.result c.middle-middle.result
    (whole_obstructions c.around-map.result c.middle-middle.result c.args.tiling.now c.args.pointed.now c.args.direction) c.in_ok-lists.lists.items = record {
      width = c.width-2.ensures.value;
      height = c.height-2.ensures.value;
      cell = c.pointed_cell-cell.ensures.value;
      map = c.around-map.ensures;
      middle = c.middle-middle.ensures;
      forbidden = refl;
      required = c.in_ok-lists.ensures;
    } in
    child_thinned k c.in_ok-obstructions.ensures c.width.ensures.kept
    (wide c.args.tiling.now.width c.args.tiling.now.height c.width.result c.height.result c.middle-middle.result c.barred-barred.result c.width.ensures.value c.height.ensures.value c.barred-barred.ensures)
    c.in_ok-child.child c.in_ok-child.ensures

pub returns-clause-tiling : goal.returns-clause-tiling
returns-clause-tiling c =
    let k : IsChild c.args.tiling.now c.args.pointed.now c.args.direction c.args.at.now c.width-2.result c.height-2.result c.around-map.result c.pointed_cell-cell.result c.middle-middle.result
    (whole_obstructions c.around-map.result c.middle-middle.result c.args.tiling.now c.args.pointed.now c.args.direction) c.in_ok-lists.lists.items = record {
      width = c.width-2.ensures.value;
      height = c.height-2.ensures.value;
      cell = c.pointed_cell-cell.ensures.value;
      map = c.around-map.ensures;
      middle = c.middle-middle.ensures;
      forbidden = refl;
      required = c.in_ok-lists.ensures;
    } in
    child_is_tiling k c.in_ok-obstructions.ensures c.width.ensures.kept (c.pointed_cell-cell.ensures.inside c.args.tiling.now.width c.args.tiling.now.height c.requires.at_inside) c.requires.few c.in_ok-child.child c.read.ensures c.in_ok-child.ensures
