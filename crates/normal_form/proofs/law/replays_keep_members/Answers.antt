use Rattle.normal_form.proofs.Tilings.{steps_keep_tilings, replays_keep_tilings, replays_keep_members}
use Rattle.normal_form.proofs.law.replays_keep_members.Goals as goal

pub returns : goal.returns
returns c = record { steps = steps_keep_tilings; tilings = replays_keep_tilings; members = replays_keep_members c.steps_keep_members.ensures }
