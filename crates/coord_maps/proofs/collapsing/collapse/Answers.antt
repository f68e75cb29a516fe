use Rattle.std.proofs.Common.{◌≡◌, ◌∙◌, length, ap, arith}
use Rattle.std.proofs.lemmas.List.{length-map}
use Rattle.gridded.specs.Grids.{letter_of, cell_of}
use Rattle.coord_maps.specs.GridMaps.{old_cell}
use Rattle.coord_maps.proofs.Moves.{collapsed_together}
use Rattle.gridded.proofs.Moved.{points-moved}
use Rattle.coord_maps.proofs.collapsing.collapse.Goals as goal

pub old_cells-cells-requires : goal.old_cells-cells-requires
old_cells-cells-requires c = omega (arith, ap (λ cells. length cells) c.cells.ensures.value, length-map c.args.g.now cell_of, c.letters-letters.ensures.short)

pub from_consistent-requires : goal.from_consistent-requires
from_consistent-requires c =
    let together = collapsed_together c.args.map.now c.args.g.now c.letters-letters.ensures.gridded in
    let as_many : length c.letters-letters.result.now ≡ length c.cells.result.now = omega (arith, ap (λ letters. length letters) c.letters-letters.ensures.value, ap (λ cells. length cells) c.cells.ensures.value, length-map c.args.g.now letter_of, length-map c.args.g.now cell_of) in
    rw (as_many, c.old_cells-cells.ensures, c.cells.ensures.value, c.letters-letters.ensures.value) together

pub returns : goal.returns
returns c =
    let as_many : length c.letters-letters.result.now ≡ length c.cells.result.now = omega (arith, ap (λ letters. length letters) c.letters-letters.ensures.value, ap (λ cells. length cells) c.cells.ensures.value, length-map c.args.g.now letter_of, length-map c.args.g.now cell_of) in
    c.from_consistent.ensures ∙ rw (as_many, c.old_cells-cells.ensures, c.cells.ensures.value, c.letters-letters.ensures.value) (points-moved (old_cell c.args.map.now) c.args.g.now)
