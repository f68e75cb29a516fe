use Rattle.std.proofs.Common.{sym, ap, ◌∙◌}
use Rattle.command_words.specs.Apps.{app_for}
use Rattle.command_words.proofs.FoundApps.{if_ok-by}
use Rattle.command_words.proofs.found.command_app.Goals as goal

pub returns-in-Check : goal.returns-in-Check
unfolding app_for
returns-in-Check c = if_ok-by _ _ (λ app e. e ∙ ap app_for (sym c.in-Check.is)) c.bare_app.result c.bare_app.ensures

pub returns-in-Terms : goal.returns-in-Terms
unfolding app_for
returns-in-Terms c = if_ok-by _ _ (λ app e. e ∙ ap app_for (sym c.in-Terms.is)) c.bare_app-in-Terms.result c.bare_app-in-Terms.ensures

pub returns-in-Sample : goal.returns-in-Sample
unfolding app_for
returns-in-Sample c = if_ok-by _ _ (λ app e. e ∙ ap app_for (sym c.in-Sample.is)) c.bare_app-in-Sample.result c.bare_app-in-Sample.ensures
