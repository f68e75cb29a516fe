use Rattle.inferral_law.proofs.Inferring.{voids_carry_members}
use Rattle.inferral_law.proofs.voids_carry_members.Goals as goal

pub returns : goal.returns
returns c = voids_carry_members c.members_within_weight.ensures
