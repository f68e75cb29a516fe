use Rattle.emptiness.proofs.Counted.{members_within_weight}
use Rattle.emptiness.proofs.empty.members_within_weight.Goals as goal

pub returns : goal.returns
returns c = members_within_weight
