use Rattle.coord_maps.proofs.Memberships.{preimages_are_listed, preimages_are_listed_once}
use Rattle.coord_maps.proofs.laws.preimages_are_listed_once.Goals as goal

pub returns : goal.returns
returns c =
    let all = c.gridded_permutations_are_listed_once.ensures in
    record { listed = preimages_are_listed all.listed; once = preimages_are_listed_once all.once }
