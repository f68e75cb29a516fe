use Rattle.std.proofs.Common.{sym, ◌∙◌}
use Rattle.std.proofs.lemmas.Result.{IfOk-weaker}
use Rattle.normal_form.proofs.ThinnedSteps.{minimal_stays, minimal_then}
use Rattle.normal_form.proofs.thinned.with_minimal.Goals as goal

pub returns-then-applies-clause-minimal : goal.returns-then-applies-clause-minimal
returns-then-applies-clause-minimal c = IfOk-weaker c.follow.result _ _ (λ least same. minimal_then c.args.tiling least c.width.ensures.kept same) c.follow.ensures.made

pub returns-clause-made : goal.returns-clause-made
returns-clause-made c = minimal_stays c.args.tiling c.width.ensures.kept (sym c.applies.ensures ∙ c.if-applies.false)
