use Rattle.std.proofs.Common.{rules, ap, ◌≡◌, ◌∙◌, true}
use Rattle.clap.specs.Words.{App, rule_of}
use Rattle.clap.specs.Simple.{app_of_fields}
use Rattle.command_words.specs.Apps.{bare_app, positional_rule}
use Rattle.command_words.proofs.FoundApps.{one_added}
use Rattle.command_words.proofs.found.bare_app.Goals as goal

pub returns : goal.returns
unfolding bare_app
returns c =
    let rule : rule_of c.action-argument.result ≡ positional_rule c.args.positional.now = search rules in
    one_added _ _ _ _ c.arg.result c.arg.ensures (search rules)
    (ap app_of_fields c.disable_help_flag.ensures ∙ ap (λ (a : App). record a { top = record a.top { disable_help_flag = true } }) c.new-2.ensures.app)
    rule
