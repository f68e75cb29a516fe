use Rattle.std.proofs.Common.{sym, ◌∙◌}
use Rattle.normal_form.proofs.ThinnedSteps.{by_void, by_min}
use Rattle.normal_form.proofs.thinned.after_first.Goals as goal

pub returns-then-applies-clause-reached : goal.returns-then-applies-clause-reached
returns-then-applies-clause-reached c = λ t k thin.
    rw (c.in_ok-push.ensures.items, c.new-steps.ensures.items) (by_void t c.args.thinned k thin c.in_ok-follow.field-0 (sym c.applies.ensures ∙ c.if-applies.true) c.in_ok-follow.ensures.made)

pub returns-clause-reached : goal.returns-clause-reached
returns-clause-reached c = λ t k thin.
    rw (c.in_ok-push-2.ensures.items, c.new-steps.ensures.items) (by_min t c.args.thinned k thin c.in_ok-with_minimal.field-0 (sym c.applies.ensures ∙ c.if-applies.false) c.in_ok-with_minimal.ensures.made)
