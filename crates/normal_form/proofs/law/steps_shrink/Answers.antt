use Rattle.normal_form.proofs.Shrinking.{steps_shrink}
use Rattle.normal_form.proofs.law.steps_shrink.Goals as goal

pub returns : goal.returns
returns c = steps_shrink
