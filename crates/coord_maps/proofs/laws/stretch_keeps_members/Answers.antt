use Rattle.coord_maps.proofs.Memberships.{collapse_is_gridded}
use Rattle.coord_maps.proofs.Holding.{collapse_holds_patterns}
use Rattle.coord_maps.proofs.Stretched as members
use Rattle.coord_maps.proofs.laws.stretch_keeps_members.Goals as goal

pub returns : goal.returns
returns c =
    let all = c.gridded_permutations_are_listed_once.ensures.listed in
    record { collapsed = collapse_is_gridded; held = collapse_holds_patterns all; members = members.stretch_keeps_members all }
