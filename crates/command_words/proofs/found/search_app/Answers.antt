use Rattle.std.proofs.Common.{ap, ◌∙◌, codes}
use Rattle.clap.specs.Words.{App}
use Rattle.command_words.specs.Apps.{app_for, add_option}
use Rattle.command_words.proofs.FoundApps.{if_ok-by}
use Rattle.command_words.proofs.found.search_app.Goals as goal

pub returns : goal.returns
unfolding app_for
returns c =
    if_ok-by _ _ (λ app e.
    e ∙ ap (λ (a : App). add_option a (codes "pack"))
    (c.in_ok-app-4.ensures ∙ ap (λ (a : App). add_option a (codes "terms"))
    (c.in_ok-app-3.ensures ∙ ap (λ (a : App). add_option a (codes "budget"))
    (c.in_ok-app-2.ensures ∙ ap (λ (a : App). add_option a (codes "workers")) c.in_ok-app.ensures))))
    c.add_option-4.result c.add_option-4.ensures
