use Rattle.inferral_law.proofs.Inferring.{inferrals_carry_members}
use Rattle.inferral_law.proofs.inferrals_carry_members.Goals as goal

pub returns : goal.returns
returns c = inferrals_carry_members c.members_within_weight.ensures
