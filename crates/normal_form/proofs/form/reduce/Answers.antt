use Rattle.std.proofs.Common.{sym, ◌∙◌}
use Rattle.normal_form.proofs.Knowing.{known_then}
use Rattle.normal_form.proofs.Reached.{next_is_smaller, reached_next, reached_end, reached_normal}
use Rattle.normal_form.proofs.Tracing.{first_applies}
use Rattle.normal_form.proofs.form.reduce.Goals as goal

pub loop-step-init : goal.loop-step-init
loop-step-init c = record { reached = λ t r. r; known = c.requires }

pub follow-requires : goal.follow-requires
follow-requires c = first_applies c.loop-step.current c.in-Some.step (sym c.first_step.ensures.value ∙ c.in-Some.is)

pub loop-step-smaller : goal.loop-step-smaller
loop-step-smaller c =
    next_is_smaller c.loop-step.current c.in_ok-current.current c.in-Some.step c.first_step.ensures.kept (sym c.first_step.ensures.value ∙ c.in-Some.is) c.in_ok-current.ensures.made

pub loop-step-preserved : goal.loop-step-preserved
loop-step-preserved c =
    let first = sym c.first_step.ensures.value ∙ c.in-Some.is in
    record {
      reached = λ t r. rw c.in_ok-push.ensures.items (reached_next t c.loop-step.trace.items c.loop-step.current c.in_ok-current.current c.in-Some.step (c.loop-step.invariant.reached t r) first c.in_ok-current.ensures.made);
      known = rw (c.known_after-known.ensures, c.in_ok-current.ensures.made) (known_then c.loop-step.current c.in-Some.step c.first_step.ensures.kept first);
    }

pub returns-clause-traced : goal.returns-clause-traced
returns-clause-traced c = λ t r. reached_end t c.loop-step.trace.items c.loop-step.current (c.loop-step.invariant.reached t r) (sym c.first_step.ensures.value ∙ c.in_default.is)

pub returns-clause-replayed : goal.returns-clause-replayed
returns-clause-replayed c = λ t r. let k = c.loop-step.invariant.reached t r in k.replayed

pub returns-clause-normal : goal.returns-clause-normal
returns-clause-normal c = reached_normal c.loop-step.current c.first_step.ensures.kept (sym c.first_step.ensures.value ∙ c.in_default.is)
