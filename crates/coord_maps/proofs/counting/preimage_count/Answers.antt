use Rattle.std.proofs.Common.{◌*◌, ◌∙◌, sym, ap, length}
use Rattle.std.specs.Prelude.{count_by, nat_eq}
use Rattle.coord_maps.specs.Ways.{ways}
use Rattle.gridded.proofs.Holding.{is_true}
use Rattle.coord_maps.proofs.Placed.{gridded_below}
use Rattle.coord_maps.proofs.Lists.{preimages_listed}
use Rattle.coord_maps.proofs.Counts.{counted}
use Rattle.coord_maps.proofs.counting.preimage_count.Goals as goal

pub returns : goal.returns
returns c =
    let gridded = c.cells.ensures.gridded in
    let in_columns = c.ways.ensures.value ∙ ap (λ n. ways n c.args.map.now.columns.parts) (c.cut_cells-columns.ensures.columns ∙ ap (λ cells. count_by (λ d. nat_eq d.x c.args.map.now.columns.at) cells) c.cells.ensures.value) in
    let in_rows = c.ways-2.ensures.value ∙ ap (λ n. ways n c.args.map.now.rows.parts) (c.cut_cells-columns.ensures.rows ∙ ap (λ cells. count_by (λ d. nat_eq d.y c.args.map.now.rows.at) cells) c.cells.ensures.value) in
    (λ i. in_columns i * in_rows i)
    ∙ sym (counted c.args.map.now c.args.g.now c.kept.ensures (is_true _ gridded.consistent) (is_true _ gridded.distinct))
    ∙ ap (λ r. length r) (preimages_listed c.args.map.now c.args.g.now c.kept.ensures (gridded_below c.args.g.now gridded) (is_true _ gridded.distinct) c.requires)
