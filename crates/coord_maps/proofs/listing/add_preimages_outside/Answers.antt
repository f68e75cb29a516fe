use Rattle.std.proofs.Common.{◌∙◌, ◌++◌, ap}
use Rattle.std.specs.List.{filter}
use Rattle.gridded.proofs.Holding.{is_true}
use Rattle.coord_maps.proofs.Placed.{gridded_below}
use Rattle.coord_maps.proofs.Lists.{preimages_listed}
use Rattle.coord_maps.proofs.Barred.{stays_out}
use Rattle.coord_maps.proofs.listing.add_preimages_outside.Goals as goal

pub returns : goal.returns
returns c =
    let gridded = c.in_ok-list_from.ensures.gridded in
    let all = preimages_listed c.args.map.now c.args.g.now c.kept.ensures (gridded_below c.args.g.now gridded) (is_true _ gridded.distinct) c.requires in
    record { added = c.in_ok-list_from.ensures.added ∙ ap (λ r. c.args.found.now.items ++ filter (stays_out c.args.barred) r) all }
