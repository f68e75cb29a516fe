use Rattle.std.proofs.Common.{◌∙◌}
use Rattle.command_words.specs.Apps.{texts_by}
use Rattle.command_words.proofs.Taken.{plain_takes, plain_text, is_given_by}
use Rattle.command_words.proofs.found.find.Goals as goal

pub unreachable-requires : goal.unreachable-requires
unreachable-requires c =
    let plain = is_given_by _ c.requires in
    absurd (c.in_default.not-OutOfMemory (c.kind.ensures ∙ c.in-Err.ensures.passes (plain_takes c.args.command _ c.in_ok-app.ensures _ plain.0 plain.1)))

pub returns-in-Ok : goal.returns-in-Ok
unfolding texts_by
returns-in-Ok c parts plain =
    c.texts_of.ensures ∙ (λ i. texts_by (λ name. plain_text c.args.command _ c.in_ok-app.ensures _ parts plain c.in-Ok.matches c.in-Ok.ensures.matches name i))
