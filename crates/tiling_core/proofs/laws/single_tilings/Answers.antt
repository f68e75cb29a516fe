use Rattle.tiling_core.proofs.Single.{unit_has_one_member, point_has_one_member, void_has_no_member}
use Rattle.tiling_core.proofs.laws.single_tilings.Goals as goal

pub returns : goal.returns
returns c = record { unit = unit_has_one_member; point = point_has_one_member; void = void_has_no_member }
