use Rattle.steps.proofs.Renamed.{steps_keep_members}
use Rattle.steps.proofs.law.steps_keep_members.Goals as goal

pub returns : goal.returns
returns c = steps_keep_members c.counts_add_up.ensures.renaming
