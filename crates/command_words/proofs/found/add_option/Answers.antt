use Rattle.std.proofs.Common.{rules, refl, ◌≡◌}
use Rattle.clap.specs.Words.{rule_of}
use Rattle.command_words.specs.Apps.{add_option, option_rule}
use Rattle.command_words.proofs.FoundApps.{one_added}
use Rattle.command_words.proofs.found.add_option.Goals as goal

pub returns : goal.returns
unfolding add_option
returns c =
    let rule : rule_of c.action-argument.result ≡ option_rule c.args.name.now = search rules in
    one_added _ _ _ _ c.arg.result c.arg.ensures (search rules) refl rule
